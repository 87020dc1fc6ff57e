-- 01, "The runs of demand 3": heard, positions, handed on, losses and missing, over the log alone, newest first.
-- A place is a position plus 65,536, so that each position that is read is a natural number: -1 is place 65,535, and a place's number is
-- what is left of it by turns.
use Rattle.std.specs.Prelude.{ℕ, suc, ◌+◌, ◌-◌, ◌%◌, ◌≤◌, ◌<◌, max, ◌≡◌, Bool, true, false, cond, not, ◌||◌, ◌&&◌, List, [], ◌∷◌, ltb, leb, eqb, Option, Some, None, Result, Ok, Err}
use Rattle.config.specs.declared.refusal.Refusal.{Refusal}
use Rattle.window.specs.declared.window.SeqRange.{SeqRange}
use Rattle.config.specs.Range.{within}
use Rattle.config.specs.Sequence.{turn, ahead}
use Rattle.window.specs.Arrival.{reach}
use Rattle.window.specs.declared.window.Class.{Class}
use Rattle.window.specs.declared.window.Class.TheVariants.{New, Late, Duplicate}
use Rattle.receiver.specs.declared.receiver.StreamEvent.{StreamEvent}
use Rattle.receiver.specs.declared.receiver.StreamEvent.TheVariants.{DataLoss, ErrorLoss, RetransmitError as ErrorOnly}
use Rattle.receiver_log.specs.Calls.{Entry, data_entry, poll_entry, error_entry, nak_entry, take_entry}

-- ---- what a call says of positions

pub data Report : Type 0 where
  -- a data command that was not refused: number, words, class, loss
  heard : ℕ → List ℕ → Class → Option SeqRange → Report
  -- any other call, with the loss that it reports
  told : Option SeqRange → Report

abbrev pub loss_of : Report → Option SeqRange
loss_of (heard seq ws c l) = l
loss_of (told l) = l

abbrev pub loss_in : Result (Option StreamEvent) Refusal → Option SeqRange
loss_in (Ok None) = None
loss_in (Ok (Some (DataLoss range))) = Some range
loss_in (Ok (Some (ErrorLoss range e))) = Some range
loss_in (Ok (Some (ErrorOnly e))) = None
loss_in (Err why) = None

abbrev pub report_of : Entry → Report
report_of (data_entry s time seq ws (Ok d)) = heard seq ws d.class d.lost
report_of (data_entry s time seq ws (Err why)) = told None
report_of (poll_entry s time e) = told (loss_in e)
report_of (error_entry q e) = told (loss_in e)
report_of (nak_entry e) = told (loss_in e)
report_of (take_entry s p b a q c) = told None

abbrev pub reports : List Entry → List Report
reports [] = []
reports (e ∷ t) = report_of e ∷ reports t

-- ---- positions

-- the place of position 0
abbrev pub origin : ℕ
origin = turn

-- a number is read as ahead of the highest place
unfoldable pub is_ahead : ℕ → ℕ → Bool
is_ahead highest seq = within 1 reach (ahead (highest % turn) seq)

-- the place of a number, read against the highest
unfoldable pub place : ℕ → ℕ → ℕ
place highest seq = cond (is_ahead highest seq) (highest + ahead (highest % turn) seq) (highest - ahead seq (highest % turn))

-- the highest place after a report
abbrev pub raised : ℕ → Report → ℕ
raised highest (heard seq ws c l) = max highest (place highest seq)
raised highest (told l) = highest

-- the highest place heard, position -1 when fresh
abbrev pub high : List Report → ℕ
high [] = origin - 1
high (e ∷ t) = raised (high t) e

-- ---- handed on

abbrev pub hands : Class → Bool
hands (New gap) = true
hands Late = true
hands Duplicate = false

-- a report hands the place x on
abbrev pub hands_on : ℕ → Report → ℕ → Bool
hands_on highest (heard seq ws c l) x = hands c && eqb x (place highest seq)
hands_on highest (told l) x = false

-- how often the place x was handed on
abbrev pub times : List Report → ℕ → ℕ
times [] x = 0
times (e ∷ t) x = cond (hands_on (high t) e x) (suc (times t x)) (times t x)

-- ---- lost

-- the newest place with a number that isn't above the highest
unfoldable pub start : ℕ → ℕ → ℕ
start highest first = highest - ahead first (highest % turn)

-- a loss holds as many positions as its count, upward from there
abbrev pub in_loss : ℕ → Option SeqRange → ℕ → Bool
in_loss highest None x = false
in_loss highest (Some range) x = leb (start highest range.first) x && ltb x (start highest range.first + range.count)

-- the place x lies in a reported loss
abbrev pub lost : List Report → ℕ → Bool
lost [] x = false
lost (e ∷ t) x = in_loss (high (e ∷ t)) (loss_of e) x || lost t x

-- ---- missing

-- from position 0, not handed on and in no reported loss
unfoldable pub unprocessed : List Report → ℕ → Bool
unprocessed t x = leb origin x && (eqb (times t x) 0 && not (lost t x))

-- unprocessed, and 1 to W behind the highest
pub record Missing (W : ℕ) (t : List Report) (x : ℕ) : Type 0 where
  pub from_0 : origin ≤ x
  pub below : x < high t
  pub within_W : high t ≤ x + W
  pub not_handed_on : times t x ≡ 0
  pub not_lost : lost t x ≡ false
