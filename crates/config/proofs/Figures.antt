-- Figures of paper 01, computed from the definitions: code and definition changed alike would still be caught here.
use Rattle.std.proofs.Common.{◌≡◌, true, refl}
use Rattle.config.specs.Settings.{defaults}

-- "Defaults: T1 100, G 2, K 5, R 2, D 10, M 3, size 64 words, retransmits on"
pub default_figures : (defaults.idle_interval_ms ≡ 100) × (defaults.idle_growth ≡ 2) × (defaults.idle_further ≡ 5) × (defaults.fec_repeats ≡ 2)
    × (defaults.request_delay_ms ≡ 10) × (defaults.max_requests ≡ 3) × (defaults.max_command_words ≡ 64) × (defaults.retransmit ≡ true)
default_figures = (refl, refl, refl, refl, refl, refl, refl, refl)
