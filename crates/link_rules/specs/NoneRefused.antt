-- 02, 7/14: the console drops the words that are refused with 6. In a run none are: no call of any step is refused.
use Rattle.std.specs.Prelude.{ℕ, ◌≡◌, Bool, true, false, List, [], ◌∷◌, Option, Some, None, Result, Ok, Err}
use Rattle.config.specs.declared.refusal.Refusal.{Refusal}
use Rattle.receiver.specs.declared.receiver.Delivery.{Delivery}
use Rattle.writing.specs.declared.writing.Written.{Written}
use Rattle.config.specs.Settings.{check_of}
use Rattle.config.specs.declared.settings.StreamConfig.{StreamConfig}
use Rattle.receiver.specs.declared.receiver.StreamEvent.{StreamEvent}
use Rattle.receiver.specs.declared.receiver.StreamEvent.TheVariants.{DataLoss, ErrorLoss, RetransmitError as ErrorOnly}
use Rattle.sender.specs.declared.sender.RequestOutcome.{RequestOutcome}
use Rattle.sender.specs.declared.sender.RequestOutcome.TheVariants.{Queued, Ignored, Error, NotSupported}
use Rattle.sender_log.specs.Calls.{TypedConfig}
use Rattle.stream.specs.Answers.{sizes_out}
use Rattle.link_rules.specs.Arriving.{Answer, heard, told, requested}
use Rattle.link_rules.specs.Link.{start_of, Calls, calls_of, run_of}

-- ---- an answer that refuses
abbrev pub write_refuses : Result Written Refusal → Bool
write_refuses (Ok w) = false
write_refuses (Err why) = true

abbrev pub event_refuses : Result (Option StreamEvent) Refusal → Bool
event_refuses (Ok None) = false
event_refuses (Ok (Some (DataLoss range))) = false
event_refuses (Ok (Some (ErrorLoss range e))) = false
event_refuses (Ok (Some (ErrorOnly e))) = false
event_refuses (Err why) = true

abbrev pub hearing_refuses : Result Delivery Refusal → Bool
hearing_refuses (Ok d) = false
hearing_refuses (Err why) = true

abbrev pub outcome_refuses : Result RequestOutcome Refusal → Bool
outcome_refuses (Ok Queued) = false
outcome_refuses (Ok (Ignored why)) = false
outcome_refuses (Ok (Error e)) = false
outcome_refuses (Ok NotSupported) = false
outcome_refuses (Err why) = true

abbrev pub refuses : Answer → Bool
refuses (heard h) = hearing_refuses h
refuses (told e) = event_refuses e
refuses (requested o) = outcome_refuses o

abbrev pub NoneRefuses : List Answer → Type 0
NoneRefuses [] = Unit {0}
NoneRefuses (a ∷ rest) = (refuses a ≡ false) × NoneRefuses rest

-- ---- the calls of a step
pub record Taken (c : Calls) : Type 0 where
  pub queued : c.queued.0.answer ≡ Ok tt
  pub opened : c.opened.0.answer ≡ Ok tt
  pub wrote : write_refuses c.wrote.0.answer ≡ false
  pub heard : NoneRefuses c.heard.answers
  pub polled : event_refuses c.polled.answer ≡ false
  pub replied : write_refuses c.replied.0.answer ≡ false
  pub read : NoneRefuses c.read.answers

-- Of every step of every run that is not refused. (R and K have 8 bits.)
abbrev pub NoneRefused : Type 0
NoneRefused =
    (cfg : StreamConfig) (window words places seed drop figure : ℕ) (ring : List ℕ)
    → check_of cfg ≡ Ok tt
    → TypedConfig cfg
    → sizes_out window words places ring ≡ false
    → (n : ℕ)
    → Taken (calls_of cfg figure (run_of cfg figure (start_of window words places seed drop) n))
