-- Why the line asks for reach: of 32,768 one-word commands only the last is heard, number 7FFF at position 32,767, which is 32,768 ahead of position -1.
-- A fresh receiver reads it as 32,768 behind: a Duplicate. No loss is reported, nothing is missing, the newest position is heard, and nothing is handed on.
use Prim.Native.Nat.{ℕ, suc, ◌+◌, ◌-◌}
use Rattle.std.proofs.Common.{None}
use mathlib.Core.Path.{◌≡◌, refl, ◌∙◌, ap}
use mathlib.Core.List.{List, [], ◌∷◌}
use native.Mathlib.Omega.{arith}
use Rattle.config.specs.Settings.{check_of}
use Rattle.window.specs.Arrival.{reach}
use Rattle.window.specs.declared.window.Class.TheVariants.{Duplicate}
use Rattle.receiver_log.specs.Calls.{Call, data_command}
use Rattle.receiver_log.specs.Log.{Report, heard, reports, origin, is_ahead, place, start, high, unprocessed, Missing}
use Rattle.receiver_log.specs.Spans.{ends_of, class_in, lost_at, lost_in}
use Rattle.receiver_log.specs.Answers.{answer_of, said_of}
use Rattle.receiver_log.specs.Promise.{log_of}
use Rattle.receiver_log.proofs.Runs.{run_said}
use Rattle.delivery.specs.Chamber.{delivered, handed_on}
use Rattle.delivery.specs.Sentence.{highest, NoLoss}
use Rattle.delivery.proofs.Chambers.{joined_none}
use Rattle.delivery.proofs.Example.{settings, A}

abbrev arrival : List Call
arrival = data_command (settings 2) 0 0x7FFF A ∷ []

abbrev arrived : List Report
arrived = heard 0x7FFF A Duplicate None ∷ []

arrived_is : reports (log_of 64 arrival) ≡ arrived
unfolding said_of answer_of check_of class_in is_ahead place lost_in lost_at ends_of unprocessed start
arrived_is = ap reports (run_said 64 (omega arith) (omega arith) arrival (omega arith)) ∙ refl

highest_stays : high arrived ≡ origin - 1
unfolding place is_ahead
highest_stays = refl

-- the line's clause fails by one, and all else that the sentence asks of a chamber holds
pub record Unreached (t : List Report) : Type 0 where
  pub out_of_reach : highest [] + reach + 1 ≡ origin + 0x7FFF
  pub no_loss : NoLoss t
  pub nothing_missing : (x : ℕ) → Missing 64 t x → ⊥
  pub nothing_handed_on : handed_on t ≡ []

pub unreached : Unreached (reports (log_of 64 arrival))
unfolding handed_on
unreached = rw arrived_is record {
  out_of_reach = refl;
  no_loss = (refl, tt);
  nothing_missing = λ x m. omega (arith, highest_stays, m.from_0, m.below);
  nothing_handed_on = joined_none (delivered arrived) (suc (high arrived)) 0 (λ y l. refl);
}
