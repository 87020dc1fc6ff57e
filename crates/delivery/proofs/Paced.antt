-- A console that is given at most s words between two writes, and no request, keeps one command at most unwritten; so each payload brings it behind the last R.
use Prim.Native.Nat.{ℕ, suc, ◌+◌, ◌*◌, ◌≤◌, ◌<◌}
use Rattle.std.proofs.Common.{Result}
use Rattle.config.specs.declared.refusal.Refusal.{Refusal}
use Rattle.packet.specs.declared.writer.PayloadWriter.{PayloadWriter}
use mathlib.Core.Path.{◌≡◌, refl, ◌∙◌}
use mathlib.Core.Logic.{inl, inr}
use mathlib.Core.Bool.{true, false, cond}
use mathlib.Core.List.{List, [], ◌∷◌, ◌++◌}
use native.Mathlib.Nat.{add-mul, one-mul}
use native.Mathlib.Omega.{arith}
use borrow.Author.Tests.{le-leb}
use lib.Dec.{ltb}
use lib.ListN.{length, get_or, length-append, length-set, get_or-eq_default}
use lib.Seq.{get_or_at}
use Rattle.config.specs.Range.{outside}
use Rattle.config.specs.declared.settings.StreamConfig.{StreamConfig}
use Rattle.config.specs.inner.Tests.{split, tests}
use Rattle.packet.specs.Layout.{Words32}
use Rattle.packet.specs.Write.{opened_of}
use Rattle.sender_log.specs.Book.{nothing}
use Rattle.sender_log.specs.Calls.{TypedConfig}
use Rattle.sender_log.proofs.Follows.{start_follows, write_follows}
use Rattle.config.specs.inner.Choices.{by_cond}
use Rattle.delivery.specs.Commands.{Command}
use Rattle.delivery.specs.Console.{Lent, no_payload, Call, open_payload, lend_again, queue_words, retransmit_request, write_into, put_in, write_astray, Entry, Console, Step, noting, payload_at, open_step, lent_again, put_step, put_into, write_step, step_of, log_from, fresh_console, AllAllowed, accepted, written, commands}
use Rattle.delivery.specs.Repeats.{Brings}
use Rattle.delivery.specs.Paced.{Ready, Paced, Round, rounds_from, AllFit, Keeps, PacedSender}
use Rattle.delivery.specs.Sentence.{Run, sent_log}
use Rattle.delivery.proofs.Tags.{on}
use Rattle.delivery.proofs.Lent.{Reads, reads_lent, reads_put, none_opened}
use Rattle.delivery.proofs.Books.{nothing_agrees}
use Rattle.delivery.proofs.Consoles.{astray_keeps, limit_most, Good, noted_good, queue_good, opened_good, put_good, write_good}
use Rattle.delivery.proofs.Room.{Kept, none, sent_kept}
use Rattle.delivery.proofs.Filled.{write_brings}
use Rattle.delivery.proofs.Repeats.{repeats_alone}

module _ (R s c q : ℕ) (history : (R + 1) * (1 + s) ≤ c) where
  record Pace (n : ℕ) (d : Console) (t : List Entry) : Type 0 where
    good : Good c q d t
    kept : Kept R s c history n good.book
    few : n ≤ s
    brings : Brings R t

  abbrev StepPace : ℕ → List Entry → Step → Type 0
  StepPace n t x = Pace n x.console (x.entry ∷ t)

  -- ---- calls that queue and write nothing

  noted_pace : (n : ℕ) (d : Console) (t : List Entry) → Pace n d t → StepPace n t (noting d)
  unfolding noted_good
  noted_pace n d t i = record { good = noted_good c q d t i.good; kept = i.kept; few = i.few; brings = i.brings }

  open_pace : (n : ℕ) (d : Console) (t : List Entry) → Pace n d t → (limit : ℕ) (buffer : List ℕ) → StepPace n t (open_step d buffer (opened_of limit))
  unfolding opened_of opened_good
  open_pace n d t i limit buffer =
      by_cond (λ (o : Result PayloadWriter Refusal). StepPace n t (open_step d buffer o)) (outside 8 1400 limit) _ _ (λ e. noted_pace n d t i)
      (λ e. record { good = opened_good c q d t i.good limit buffer (limit_most limit e); kept = i.kept; few = i.few; brings = i.brings })

  put_pace : (n : ℕ) (d : Console) (t : List Entry) → Pace n d t → (k : ℕ) (f : Lent → Lent) → ((v : Lent) (cs : List Command) → Reads v cs → Reads (f v) cs)
      → StepPace n t (cond (ltb k (length d.payloads)) (put_step d k (f (payload_at d k))) (noting d))
  unfolding put_good
  put_pace n d t i k f keeps =
      by_cond (StepPace n t) (ltb k (length d.payloads)) _ _
      (λ e. record {
        good = put_good c q d t i.good k (omega (arith, tests)) (f (payload_at d k)) (keeps (payload_at d k) (on k (written t)));
        kept = i.kept;
        few = i.few;
        brings = i.brings;
      })
      (λ e. noted_pace n d t i)

  -- ---- queue words, write

  queue_pace : (n : ℕ) (d : Console) (t : List Entry) → Pace n d t → (cfg : StreamConfig) (ws : List ℕ) → Words32 ws → s ≤ cfg.max_command_words → n + length ws ≤ s
      → StepPace (n + length ws) t (step_of d (queue_words cfg ws))
  unfolding step_of queue_good
  queue_pace n d t i cfg ws h m l =
      record { good = queue_good c q d t i.good cfg ws h; kept = sent_kept R s c history n i.good.book cfg ws i.kept l m; few = l; brings = i.brings }

  write_pace : (n : ℕ) (d : Console) (t : List Entry) → Pace n d t → (k : ℕ) (cfg : StreamConfig) (time : ℕ) → TypedConfig cfg → Ready R s cfg (payload_at d k) → k < length d.payloads
      → StepPace 0 t (write_step d k cfg time)
  unfolding write_good
  write_pace n d t i k cfg time typed ready l =
      let g = i.good in
      let v : Lent = payload_at d k in
      let f = write_follows c q d.sender d.ring g.book g.follows cfg typed time v.payload v.buffer in
      let r = write_brings R s c history g.follows.most cfg time v ready (g.payloads.open_ones k l).holds.opened n g.book (accepted t) (commands (written t)) g.agrees i.kept i.few (omega (arith, g.follows.least)) in
      record { good = write_good c q d t g k cfg time typed l; kept = r.0; few = omega arith; brings = (rw (f.2, f.3) r.1, i.brings) }

  -- ---- a payload that is ready is open

  ready_open : (d : Console) (k : ℕ) (cfg : StreamConfig) → Ready R s cfg (payload_at d k) → ltb k (length d.payloads) ≡ true
  ready_open d k cfg r = elim (split (ltb k (length d.payloads))) [
    | inl e ↦ e
    | inr e ↦
        let none : payload_at d k ≡ no_payload = get_or-eq_default d.payloads no_payload (omega (arith, tests)) in
        let z : ⊥ = omega (arith, rw none at r.limit) in absurd z
  ]

  -- ---- every call

  log_pace : (calls : List Call) (n : ℕ) (d : Console) (t : List Entry) → Pace n d t → AllAllowed calls → Paced R s d n calls → Brings R (log_from d t calls)
  unfolding log_from step_of
  log_pace [] n d t i a h = i.brings
  log_pace (open_payload limit buffer ∷ calls) n d t i a h = log_pace calls n _ _ (open_pace n d t i limit buffer) a.1 h
  log_pace (lend_again k rest ∷ calls) n d t i a h = log_pace calls n _ _ (put_pace n d t i k (lent_again rest) (reads_lent rest)) a.1 h
  log_pace (queue_words cfg ws ∷ calls) n d t i a h = log_pace calls (n + length ws) _ _ (queue_pace n d t i cfg ws a.0 h.0 (omega (arith, h.1))) a.1 h.2
  log_pace (retransmit_request cfg r ∷ calls) n d t i a h = absurd h
  log_pace (write_into k cfg time ∷ calls) n d t i a h =
      let o = ready_open d k cfg h.0 in
      rw o (log_pace calls 0 _ _ (write_pace n d t i k cfg time a.0 h.0 (omega (arith, tests))) a.1 (rw o at h.1))
  log_pace (put_in k call ∷ calls) n d t i a h = log_pace calls n _ _ (put_pace n d t i k (put_into call) (λ v cs. reads_put call v cs a.0.0 a.0.1)) a.1 h
  log_pace (write_astray p b cfg time ∷ calls) n d t i a h =
      let e = astray_keeps d.sender cfg time p b d.ring a.0 in
      rw (e.0, e.1) (log_pace calls n _ _ (noted_pace n d t i) a.1 (rw (e.0, e.1) at h))

-- ---- the theorem

brings : (u : Run) (R s : ℕ) → Keeps R s u → Brings R (sent_log u)
brings u R s k =
    log_pace R s u.words u.places k.history u.calls 0 (fresh_console u.words u.places u.ring₀) []
    record {
      good = record { book = nothing; follows = start_follows u.words u.places u.ring₀ u.started; agrees = nothing_agrees u.words; payloads = none_opened };
      kept = record { holding = record { no_request = refl; few = tt; last = omega arith }; unwritten = none };
      few = omega arith;
      brings = tt;
    }
    u.allowed k.paced

-- ---- rounds

write_count : (d : Console) (k : ℕ) (cfg : StreamConfig) (time : ℕ) → length (step_of d (write_into k cfg time)).console.payloads ≡ length d.payloads
unfolding step_of
write_count d k cfg time =
    by_cond (λ (x : Step). length x.console.payloads ≡ length d.payloads) (ltb k (length d.payloads)) _ _ (λ e. length-set d.payloads k _) (λ e. refl)

rounds_paced : (R s : ℕ) (rs : List Round) (k : ℕ) (d : Console) → length d.payloads ≡ k → AllFit R s rs → Paced R s d 0 (rounds_from k rs)
unfolding step_of opened_of
rounds_paced R s [] k d n f = tt
rounds_paced R s (r ∷ rs) k d n f =
    let fit = f.0 in
    let v : Lent = record { payload = record { len = 0; max = r.limit }; buffer = r.buffer } in
    let opens : outside 8 1400 r.limit ≡ false = rw (le-leb 8 r.limit (omega (arith, fit.limit, least)), le-leb r.limit 1400 fit.most) in
    let opened : Console = record { sender = d.sender; ring = d.ring; payloads = d.payloads ++ (v ∷ []) } in
    let queued : Console = (step_of opened (queue_words r.settings r.words)).console in
    let here : get_or (d.payloads ++ (v ∷ [])) k no_payload ≡ v = get_or_at d.payloads v [] no_payload k n in
    rw opens (
      fit.size,
      omega (arith, fit.few),
      (
        rw here record { passes = fit.passes; repeats = fit.repeats; empty = refl; limit = fit.limit; lent = fit.lent },
        rounds_paced R s rs (suc k) (step_of queued (write_into k r.settings r.time)).console (write_count queued k r.settings r.time ∙ length-append d.payloads (v ∷ []) ∙ omega arith) f.1,
      ),
    )
  where
    least : 4 ≤ (R + 1) * (4 + 4 * s)
    least = rw (add-mul R 1 (4 + 4 * s), one-mul (4 + 4 * s)) (omega arith)

pub paced_sender : PacedSender
paced_sender = record {
  brings = brings;
  alone = λ u R s k a. repeats_alone u R record { brings = brings u R s k; gone = _; arrives = a; last = refl };
  rounds = λ R s words places ring₀ rs f. rounds_paced R s rs 0 (fresh_console words places ring₀) refl f;
}
