-- 01, "Numbers of each operation", Start: the settings as eight words, T1 G K R X D M SIZE.
use Rattle.std.specs.Prelude.{◌≡◌, ℕ, ◌≤◌, List, [], ◌∷◌, length, get_or, eqb, Result, Ok, Err, ⊤}
use Rattle.config.specs.declared.refusal.Refusal.{Refusal}
use Rattle.config.specs.Entry.{on_state, entry}
use Rattle.config.specs.Settings.{check_of}
use Rattle.config.specs.declared.settings.StreamConfig.{StreamConfig}
use Rattle.c_words.specs.Limits.{within}

abbrev at : List ℕ → ℕ → ℕ
at ws k = get_or ws k 0

abbrev pub settings_of : List ℕ → StreamConfig
settings_of ws =
    record {
      idle_interval_ms = at ws 0;
      idle_growth = at ws 1;
      idle_further = at ws 2;
      fec_repeats = at ws 3;
      retransmit = eqb (at ws 4) 1;
      request_delay_ms = at ws 5;
      max_requests = at ws 6;
      max_command_words = at ws 7;
    }

-- K, R and M have 8 bits, X is 0 or 1
abbrev pub settings_limits : List (ℕ × ℕ)
settings_limits = (2, 255) ∷ (3, 255) ∷ (4, 1) ∷ (6, 255) ∷ []

-- 13 where the words are not eight, then the settings' own 9, 7, 8, then 13 where a word is too wide
unfoldable pub settings_check : List ℕ → Result ⊤ Refusal
settings_check ws = on_state (eqb (length ws) 8) Err (entry (check_of (settings_of ws)) (within settings_limits ws) Err (Ok tt))

-- words that are settings
pub record Small (ws : List ℕ) : Type 0 where
  pub whole : length ws ≡ 8
  pub further : at ws 2 ≤ 255
  pub repeats : at ws 3 ≤ 255
  pub requests : at ws 6 ≤ 255
