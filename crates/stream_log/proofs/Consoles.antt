-- A stream with its payloads is a stream on its calls, and its sender with the payloads is crate delivery's console on the calls that these count as.
use Prim.Native.Nat.{ℕ, ◌≤◌}
use Rattle.std.proofs.Common.{Option, Some, None, Result, Ok, Err}
use Rattle.command.specs.declared.retransmit.RetransmitRequest.{RetransmitRequest}
use Rattle.config.specs.declared.refusal.Refusal.{Refusal}
use Rattle.std.specs.Bool.{⊤}
use mathlib.Core.Path.{◌≡◌, refl, sym, ap, ◌∙◌, subst}
use mathlib.Core.Bool.{Bool, true, false, cond, ◌&&◌}
use mathlib.Core.List.{List, [], ◌∷◌, ◌++◌}
use native.Mathlib.Omega.{arith}
use lib.Dec.{ltb}
use lib.ListN.{length, get_or, set, replicate, length-set}
use lib.Seq.{get_or-set_same, set-get_or, set-set}
use Rattle.config.specs.Entry.{entry}
use Rattle.config.specs.Settings.{check_of}
use Rattle.config.specs.declared.settings.StreamConfig.{StreamConfig}
use Rattle.config.specs.inner.Tests.{tests}
use Rattle.packet.specs.Write.{valid_of as payload_valid, opened_of}
use Rattle.packet.specs.declared.writer.PayloadWriter.{PayloadWriter}
use Rattle.command.specs.Calls.{request, Typed as WriteTyped}
use Rattle.command.specs.Calls as Writes
use Rattle.window.specs.Set.{max_window}
use Rattle.receiver.specs.declared.receiver.Receiver.{Receiver}
use Rattle.receiver.specs.declared.receiver.Request.{Request}
use Rattle.receiver.specs.declared.receiver.Request.TheVariants.{Nothing as NotDue, Written as Taken, More as NoSpace}
use Rattle.receiver_log.specs.Calls as Receiver
use Rattle.config.specs.inner.Choices.{by_cond}
use Rattle.receiver_log.proofs.Follows.{AskedOk}
use Rattle.receiver_log.proofs.Runs.{run_ok as receiver_run}
use Rattle.sender.specs.Answers as sender
use Rattle.writing.specs.Answers as writing
use Rattle.sender.specs.declared.sender.Sender.{Sender}
use Rattle.sender_log.specs.Promise as Sent
use Rattle.delivery.specs.Console.{Lent, no_payload, fresh_console, AllAllowed}
use Rattle.delivery.specs.Console as Delivery
use Rattle.stream.specs.State.{valid_of, fresh, with_receiver}
use Rattle.stream.specs.Ends.{send_answer, request_answer, data_answer, error_answer, nak_answer, poll_answer, take_answer}
use Rattle.stream.specs.Answers.{new_answer}
use Rattle.stream.specs.Writing.{write_refused, data_written, write_answer}
use Rattle.stream.specs.declared.stream.DataStream.{DataStream}
use Rattle.stream.specs.declared.stream.Wrote.{Wrote}
use Rattle.stream_log.specs.Calls.{send_ump, on_retransmit_request, on_ump_data, on_retransmit_error, on_retransmit_nak, poll, write_request, write_data, next_deadline, wants_write, reset, Typed, AllTyped}
use Rattle.stream_log.specs.Calls as Stream
use Rattle.stream_log.specs.Ends.{Ends, uncalled, receiving, ends_from}
use Rattle.stream_log.specs.Console.{Call, open_payload, lend_again, put_in, request_into, write_into, on_stream, Console, is_open, payload_at, sending_end, taken_into, step_of, of_stream, put_by, of_sender, of_console, Aside, Run, run_from, Allowed, EachAllowed, run_of, end_from, LineEnds}
use Rattle.stream_log.specs.Console as Console
use Rattle.stream_log.proofs.Writing.{behind_take, Joined, write_joined}
use Rattle.stream_log.proofs.Taking.{Took, settings, invalid, too_large, no_space, none_due, taken, take_took}
use Rattle.stream_log.proofs.Runs.{start_is, Tied, receiving_on, receiver_keeps, both_valid, from_on, again, start_tied}

-- ---- crate delivery's calls

module _ (d : Delivery.Console) (k : ℕ) (there : ltb k (length d.payloads) ≡ true) where
  put_done : (call : Writes.Call) → (Delivery.step_of d (Delivery.put_in k call)).console ≡ Delivery.with_payload d k (Delivery.put_into call (Delivery.payload_at d k))
  unfolding Delivery.step_of
  put_done call = rw there

  write_done : (cfg : StreamConfig) (time : ℕ) → (Delivery.step_of d (Delivery.write_into k cfg time)).console ≡ (Delivery.write_step d k cfg time).console
  unfolding Delivery.step_of
  write_done cfg time = rw there

-- into a payload that was just written
write_again : (d : Delivery.Console) (k : ℕ) (x : Lent) (cfg : StreamConfig) (time : ℕ) → ltb k (length d.payloads) ≡ true
    → (Delivery.write_step (Delivery.with_payload d k x) k cfg time).console
    ≡ (let w = writing.write_answer d.sender cfg time x.payload x.buffer d.ring in
    record { sender = w.0.sender; ring = w.2; payloads = set d.payloads k record { payload = w.0.payload; buffer = w.1 } })
write_again d k x cfg time there =
    let e : get_or (set d.payloads k x) k no_payload ≡ x = get_or-set_same d.payloads k x no_payload (omega (arith, tests)) in
    let u : Lent → Lent = λ v. let w = writing.write_answer d.sender cfg time v.payload v.buffer d.ring in record { payload = w.0.payload; buffer = w.1 } in
    ap (λ (v : Lent). let w = writing.write_answer d.sender cfg time v.payload v.buffer d.ring in
    record { sender = w.0.sender; ring = w.2; payloads = set (set d.payloads k x) k (u v) }) e
    ∙ ap (λ (vs : List Lent). let w = writing.write_answer d.sender cfg time x.payload x.buffer d.ring in record { sender = w.0.sender; ring = w.2; payloads = vs }) (set-set d.payloads k x (u x))

-- a call on the payloads leaves the sender and its history
open_rest : (d : Delivery.Console) (buffer : List ℕ) (o : Result PayloadWriter Refusal)
    → record { sender = d.sender; ring = d.ring; payloads = (Delivery.open_step d buffer o).console.payloads } ≡ (Delivery.open_step d buffer o).console
open_rest d buffer (Err why) = refl
open_rest d buffer (Ok p) = refl

put_rest : (d : Delivery.Console) (k : ℕ) (v : Lent) (o : Bool)
    → record { sender = d.sender; ring = d.ring; payloads = (cond o (Delivery.put_step d k v) (Delivery.noting d)).console.payloads } ≡ (cond o (Delivery.put_step d k v) (Delivery.noting d)).console
put_rest d k v true = refl
put_rest d k v false = refl

-- ---- one call, of the sender with the payloads

module _ (c : Console) (k : ℕ) (cfg : StreamConfig) (there : is_open c k ≡ true) where
  abbrev v : Lent
  v = payload_at c k

  abbrev leaving : Sender → List ℕ → PayloadWriter → List ℕ → Delivery.Console
  leaving s ring p b = record { sender = s; ring = ring; payloads = set c.payloads k record { payload = p; buffer = b } }

  same_payload : leaving c.stream.sender c.ring v.payload v.buffer ≡ sending_end c
  same_payload = rw (set-get_or c.payloads k no_payload)

  -- taking a due request is writing it into the payload
  put_is : (a : Result Request Refusal) (r : Receiver) (p : PayloadWriter) (b : List ℕ) → Took c.stream.receiver cfg v.payload v.buffer a r p b
      → leaving c.stream.sender c.ring p b ≡ end_from (sending_end c) (put_by k a r.asked)
  unfolding end_from
  put_is a r p b (settings why e) = same_payload
  put_is a r p b (invalid e f) = same_payload
  put_is a r p b (too_large g x w l z) = same_payload
  put_is a r p b (no_space g x w l z) = same_payload
  put_is a r p b (none_due g _ w d) = same_payload
  put_is a r p b (taken g q _ w d e l) = sym (ap (λ (y : Option RetransmitRequest). end_from (sending_end c) (put_by k (Ok Taken) y)) e ∙ put_done (sending_end c) k there (request q))

  write_is : (time : ℕ) (a : Result Request Refusal) (r : Receiver) (p : PayloadWriter) (b : List ℕ) → Took c.stream.receiver cfg v.payload v.buffer a r p b
      → (let w = behind_take a (with_receiver c.stream r) cfg time p b c.ring in
      leaving w.0.stream.sender w.2 w.0.payload w.1 ≡ end_from (sending_end c) (put_by k a r.asked ++ Console.unless_cut a (Delivery.write_into k cfg time)))
  unfolding end_from
  write_is time a r p b (settings why e) = same_payload
  write_is time a r p b (invalid e f) = same_payload
  write_is time a r p b (too_large g x w l z) = same_payload
  write_is time a r p b (no_space g x w l z) = same_payload
  write_is time a r p b (none_due g _ w d) = sym (write_done (sending_end c) k there cfg time)
  write_is time a r p b (taken g q _ w d e l) =
      let x : Lent = Delivery.put_into (request q) v in
      let d₁ : Delivery.Console = Delivery.with_payload (sending_end c) k x in
      let still : ltb k (length (set c.payloads k x)) ≡ true = rw (length-set c.payloads k x) there in
      sym (ap (λ (y : Option RetransmitRequest). end_from (sending_end c) (put_by k (Ok Taken) y ++ (Delivery.write_into k cfg time ∷ []))) e
      ∙ ap (λ (y : Delivery.Console). (Delivery.step_of y (Delivery.write_into k cfg time)).console) (put_done (sending_end c) k there (request q)) ∙ write_done d₁ k still cfg time ∙ write_again (sending_end c) k x cfg time there)

-- ---- lists of allowed calls

both_allowed : (xs ys : List Delivery.Call) → AllAllowed xs → AllAllowed ys → AllAllowed (xs ++ ys)
both_allowed [] ys h k = k
both_allowed (x ∷ xs) ys h k = (h.0, both_allowed xs ys h.1 k)

cut_allowed : (a : Result Request Refusal) (call : Delivery.Call) → Delivery.Allowed call → AllAllowed (Console.unless_cut a call)
cut_allowed (Ok NotDue) call h = (h, tt)
cut_allowed (Ok Taken) call h = (h, tt)
cut_allowed (Ok NoSpace) call h = tt
cut_allowed (Err why) call h = tt

-- ---- a console whose stream's ends are what their calls leave

-- the write, from its ends' answers
abbrev behind_of : Console → ℕ → StreamConfig → ℕ → Wrote × List ℕ × List ℕ
behind_of c k cfg time =
    let t = taken_into c k cfg in
    behind_take t.0.answer (with_receiver c.stream t.0.receiver) cfg time t.0.payload t.1 c.ring

-- the console with payload k as a call left it
abbrev left_at : Console → ℕ → Wrote × List ℕ × List ℕ → Console
left_at c k w = record { stream = w.0.stream; ring = w.2; payloads = set c.payloads k record { payload = w.0.payload; buffer = w.1 } }

module _ (W n q : ℕ) (ring₀ : List ℕ) (least : 1 ≤ W) (most : W ≤ max_window) (started : Sent.Started n q ring₀) (c : Console) (e : Ends) (i : Tied W n q ring₀ c.stream c.ring e) where
  took : (k : ℕ) (cfg : StreamConfig) → (let t = taken_into c k cfg in Took c.stream.receiver cfg (payload_at c k).payload (payload_at c k).buffer t.0.answer t.0.receiver t.0.payload t.1)
  took k cfg = take_took c.stream.receiver cfg (payload_at c k).payload (payload_at c k).buffer (receiver_keeps W n q ring₀ least most started c.stream c.ring e i).valid

  joined : Joined c.stream c.ring
  joined = write_joined c.stream c.ring (both_valid W n q ring₀ least most started c.stream c.ring e i)

  request_step : (k : ℕ) (cfg : StreamConfig) → sending_end (step_of c (request_into k cfg)) ≡ end_from (sending_end c) (of_console c (request_into k cfg))
  unfolding step_of take_answer end_from
  request_step k cfg = go (is_open c k) refl
    where
      go : (o : Bool) → is_open c k ≡ o
          → sending_end (cond o (record { stream = with_receiver c.stream (taken_into c k cfg).0.receiver; ring = c.ring; payloads = set c.payloads k record { payload = (taken_into c k cfg).0.payload; buffer = (taken_into c k cfg).1 } }) c)
          ≡ end_from (sending_end c) (cond o (put_by k (taken_into c k cfg).0.answer (taken_into c k cfg).0.receiver.asked) [])
      go true o = put_is c k cfg o (taken_into c k cfg).0.answer (taken_into c k cfg).0.receiver (taken_into c k cfg).0.payload (taken_into c k cfg).1 (took k cfg)
      go false o = refl

  write_step : (k : ℕ) (cfg : StreamConfig) (time : ℕ) → sending_end (step_of c (write_into k cfg time)) ≡ end_from (sending_end c) (of_console c (write_into k cfg time))
  unfolding step_of end_from
  write_step k cfg time = rw (joined cfg time (payload_at c k).payload (payload_at c k).buffer) (go (is_open c k) refl)
    where
      go : (o : Bool) → is_open c k ≡ o
          → sending_end (cond o (left_at c k (behind_of c k cfg time)) c)
          ≡ end_from (sending_end c) (cond o (put_by k (taken_into c k cfg).0.answer (taken_into c k cfg).0.receiver.asked ++ Console.unless_cut (taken_into c k cfg).0.answer (Delivery.write_into k cfg time)) [])
      go true o = write_is c k cfg o time (taken_into c k cfg).0.answer (taken_into c k cfg).0.receiver (taken_into c k cfg).0.payload (taken_into c k cfg).1 (took k cfg)
      go false o = refl

  -- a write that is given a payload that isn't valid leaves the stream
  astray : (cfg : StreamConfig) (time : ℕ) (p : PayloadWriter) (b : List ℕ) → payload_valid p (length b) ≡ false
      → ((write_answer c.stream cfg time p b c.ring).0.stream.sender ≡ c.stream.sender) × ((write_answer c.stream cfg time p b c.ring).2 ≡ c.ring)
  unfolding write_answer
  astray cfg time p b x = rw x (go (check_of cfg) (valid_of c.stream c.ring))
    where
      go : (k : Result ⊤ Refusal) (o : Bool)
          → (let w = entry k (o && false) (write_refused c.stream p b c.ring) (data_written c.stream cfg time p b c.ring) in
          (w.0.stream.sender ≡ c.stream.sender) × (w.2 ≡ c.ring))
      go (Err why) o = (refl, refl)
      go (Ok _) true = (refl, refl)
      go (Ok _) false = (refl, refl)

  stream_step : (call : Stream.Call) → Aside call → sending_end (step_of c (on_stream call)) ≡ end_from (sending_end c) (of_sender call)
  unfolding step_of end_from Stream.step_of Delivery.step_of send_answer request_answer data_answer error_answer nak_answer poll_answer take_answer
  stream_step (send_ump cfg ws) a = refl
  stream_step (on_retransmit_request cfg r) a = refl
  stream_step (on_ump_data cfg time seq ws) a = refl
  stream_step (on_retransmit_error err) a = refl
  stream_step on_retransmit_nak a = refl
  stream_step (poll cfg time) a = refl
  stream_step (write_request cfg p b) a = refl
  stream_step (write_data cfg time p b) a = let k = astray cfg time p b a in cc (k.0, k.1)
  stream_step next_deadline a = refl
  stream_step (wants_write time) a = refl
  stream_step reset a = absurd a

  sending_step : (call : Call) → Allowed call → sending_end (step_of c call) ≡ end_from (sending_end c) (of_console c call)
  unfolding step_of end_from Delivery.step_of
  sending_step (open_payload limit buffer) a = open_rest (sending_end c) buffer (opened_of limit)
  sending_step (lend_again k rest) a = put_rest (sending_end c) k _ (is_open c k)
  sending_step (put_in k call) a = put_rest (sending_end c) k _ (is_open c k)
  sending_step (request_into k cfg) a = request_step k cfg
  sending_step (write_into k cfg time) a = write_step k cfg time
  sending_step (on_stream call) a = stream_step call a.1

  -- ---- arguments

  asked_ok : (k : ℕ) (cfg : StreamConfig) → AskedOk W (taken_into c k cfg).0.receiver.asked
  unfolding Receiver.step_of
  asked_ok k cfg =
      let take : Receiver.Call = Receiver.take_request cfg (payload_at c k).payload (payload_at c k).buffer in
      let j = receiving_on W n q ring₀ c.stream c.ring e i take tt in
      subst (λ (r : Receiver). AskedOk W r.asked) (sym j.receiver_is) (receiver_run W least most (receiving e take).received j.receiver_typed).few

  put_allowed : (k : ℕ) (a : Result Request Refusal) (asked : Option RetransmitRequest) → AskedOk W asked → AllAllowed (put_by k a asked)
  unfolding WriteTyped
  put_allowed k (Ok Taken) (Some x) h = ((omega (arith, h.1), refl), tt)
  put_allowed k (Ok Taken) None h = tt
  put_allowed k (Ok NotDue) asked h = tt
  put_allowed k (Ok NoSpace) asked h = tt
  put_allowed k (Err why) asked h = tt

  sender_allowed : (call : Stream.Call) → Typed call → AllAllowed (of_sender call)
  sender_allowed (send_ump cfg ws) l = (l.1, tt)
  sender_allowed (on_retransmit_request cfg r) l = (tt, tt)
  sender_allowed (on_ump_data cfg time seq ws) l = tt
  sender_allowed (on_retransmit_error err) l = tt
  sender_allowed on_retransmit_nak l = tt
  sender_allowed (poll cfg time) l = tt
  sender_allowed (write_request cfg p b) l = tt
  sender_allowed (write_data cfg time p b) l = tt
  sender_allowed next_deadline l = tt
  sender_allowed (wants_write time) l = tt
  sender_allowed reset l = tt

  console_allowed : (call : Call) → Allowed call → AllAllowed (of_console c call)
  console_allowed (open_payload limit buffer) a = (tt, tt)
  console_allowed (lend_again k rest) a = (tt, tt)
  console_allowed (put_in k call) a = (a, tt)
  console_allowed (request_into k cfg) a =
      by_cond AllAllowed (is_open c k) _ _ (λ o. put_allowed k (taken_into c k cfg).0.answer (taken_into c k cfg).0.receiver.asked (asked_ok k cfg)) (λ o. tt)
  console_allowed (write_into k cfg time) a =
      by_cond AllAllowed (is_open c k) _ _
      (λ o. both_allowed (put_by k (taken_into c k cfg).0.answer (taken_into c k cfg).0.receiver.asked) _
      (put_allowed k (taken_into c k cfg).0.answer (taken_into c k cfg).0.receiver.asked (asked_ok k cfg)) (cut_allowed (taken_into c k cfg).0.answer (Delivery.write_into k cfg time) a)) (λ o. tt)
  console_allowed (on_stream call) a = sender_allowed call a.0

  stream_typed : (call : Call) → Allowed call → AllTyped (of_stream c call)
  stream_typed (open_payload limit buffer) a = tt
  stream_typed (lend_again k rest) a = tt
  stream_typed (put_in k call) a = tt
  stream_typed (request_into k cfg) a = by_cond AllTyped (is_open c k) _ _ (λ o. (tt, tt)) (λ o. tt)
  stream_typed (write_into k cfg time) a = by_cond AllTyped (is_open c k) _ _ (λ o. (a, tt)) (λ o. tt)
  stream_typed (on_stream call) a = (a.0, tt)

-- ---- one call, of the stream

abbrev StreamIs : Console → List Stream.Entry → List Stream.Call → Console → Type 0
StreamIs c t calls d = let u = Stream.run_from c.stream c.ring t calls in (u.stream ≡ d.stream) × (u.ring ≡ d.ring)

into_is : (c d : Console) (t : List Stream.Entry) (call : Stream.Call) → StreamIs c t (call ∷ []) d → (o : Bool) → StreamIs c t (cond o (call ∷ []) []) (cond o d c)
unfolding Stream.run_from
into_is c d t call h true = h
into_is c d t call h false = (refl, refl)

stream_is : (c : Console) (call : Call) (t : List Stream.Entry) → StreamIs c t (of_stream c call) (step_of c call)
unfolding step_of Stream.run_from Stream.step_of
stream_is c (open_payload limit buffer) t = (refl, refl)
stream_is c (lend_again k rest) t = (refl, refl)
stream_is c (put_in k call) t = (refl, refl)
stream_is c (request_into k cfg) t = into_is c _ t (write_request cfg (payload_at c k).payload (payload_at c k).buffer) (refl, refl) (is_open c k)
stream_is c (write_into k cfg time) t = into_is c _ t (write_data cfg time (payload_at c k).payload (payload_at c k).buffer) (refl, refl) (is_open c k)
stream_is c (on_stream call) t = (refl, refl)

-- ---- all calls

end_append : (xs ys : List Delivery.Call) (d : Delivery.Console) → end_from d (xs ++ ys) ≡ end_from (end_from d xs) ys
unfolding end_from
end_append [] ys d = refl
end_append (x ∷ xs) ys d = end_append xs ys (Delivery.step_of d x).console

stream_append : (xs ys : List Stream.Call) (s : DataStream) (ring : List ℕ) (t : List Stream.Entry)
    → Stream.run_from s ring t (xs ++ ys) ≡ Stream.run_from (Stream.run_from s ring t xs).stream (Stream.run_from s ring t xs).ring (Stream.run_from s ring t xs).log ys
unfolding Stream.run_from
stream_append [] ys s ring t = refl
stream_append (x ∷ xs) ys s ring t = stream_append xs ys (Stream.step_of s ring x).stream (Stream.step_of s ring x).ring ((Stream.step_of s ring x).entry ∷ t)

both_typed : (xs ys : List Stream.Call) → AllTyped xs → AllTyped ys → AllTyped (xs ++ ys)
both_typed [] ys h k = k
both_typed (x ∷ xs) ys h k = (h.0, both_typed xs ys h.1 k)

record LineIs (c : Console) (t : List Stream.Entry) (u : Run) : Type 0 where
  stream : StreamIs c t u.called u.console
  typed : AllTyped u.called
  sending : sending_end u.console ≡ end_from (sending_end c) u.sent
  allowed : AllAllowed u.sent

module _ (W n q : ℕ) (ring₀ : List ℕ) (least : 1 ≤ W) (most : W ≤ max_window) (started : Sent.Started n q ring₀) (new : Tied W n q ring₀ (fresh W n q) (replicate n 0) uncalled) where
  from_line : (calls : List Call) (c : Console) (t : List Stream.Entry) (e : Ends) → Tied W n q ring₀ c.stream c.ring e → EachAllowed calls → LineIs c t (run_from c calls)
  unfolding run_from end_from Stream.run_from
  from_line [] c t e i a = record { stream = (refl, refl); typed = tt; sending = refl; allowed = tt }
  from_line (call ∷ calls) c t e i a =
      let d = step_of c call in
      let xs = of_stream c call in
      let ys = of_console c call in
      let u = run_from d calls in
      let x = Stream.run_from c.stream c.ring t xs in
      let same = stream_is c call t in
      let hx = stream_typed W n q ring₀ least most started c e i call a.0 in
      let j : Tied W n q ring₀ d.stream d.ring (ends_from W e xs) =
      subst (λ (s : DataStream). Tied W n q ring₀ s d.ring (ends_from W e xs)) same.0
      (subst (λ (ring : List ℕ). Tied W n q ring₀ x.stream ring (ends_from W e xs)) same.1 (from_on W n q ring₀ least most started new xs c.stream c.ring t e i hx)) in
      let k = from_line calls d x.log (ends_from W e xs) j a.1 in
      let on : Stream.run_from c.stream c.ring t (xs ++ u.called) ≡ Stream.run_from d.stream d.ring x.log u.called =
      stream_append xs u.called c.stream c.ring t ∙ ap (λ (s : DataStream). Stream.run_from s x.ring x.log u.called) same.0
      ∙ ap (λ (ring : List ℕ). Stream.run_from d.stream ring x.log u.called) same.1 in
      let es = sending_step W n q ring₀ least most started c e i call a.0 in
      record {
        stream = (ap (λ (z : Stream.Run). z.stream) on ∙ k.stream.0, ap (λ (z : Stream.Run). z.ring) on ∙ k.stream.1);
        typed = both_typed xs u.called hx k.typed;
        sending = k.sending ∙ ap (λ (z : Delivery.Console). end_from z u.sent) es ∙ sym (end_append ys u.sent (sending_end c));
        allowed = both_allowed ys u.sent (console_allowed W n q ring₀ least most started c e i call a.0) k.allowed;
      }

-- ---- the theorem

pub line_ends : LineEnds
unfolding run_of Stream.run
line_ends u =
    let W = u.window in
    let n = u.words in
    let q = u.places in
    let x = new_answer u.settings W n q u.ring₀ in
    let st = start_is u.settings W n q u.ring₀ u.started in
    let start : Console = record { stream = x.0.stream; ring = x.1; payloads = [] } in
    let k = from_line W n q u.ring₀ st.least st.most st.started (again u.settings W n q u.ring₀ u.started) u.calls start [] uncalled (start_tied u.settings W n q u.ring₀ u.started) u.allowed in
    let es : (sender.new_answer n q u.ring₀).0.sender ≡ x.0.stream.sender = sym st.sender_is ∙ ap (λ (s : DataStream). s.sender) st.stream_is in
    let er : (sender.new_answer n q u.ring₀).1 ≡ x.1 = sym st.history_is ∙ st.ring_is in
    let same : fresh_console n q u.ring₀ ≡ sending_end start =
    ap (λ (s : Sender). record { sender = s; ring = (sender.new_answer n q u.ring₀).1; payloads = [] }) es ∙ ap (λ (r : List ℕ). record { sender = x.0.stream.sender; ring = r; payloads = [] }) er in
    record {
      stream = (sym k.stream.0, sym k.stream.1);
      typed = k.typed;
      sending = k.sending ∙ ap (λ (z : Delivery.Console). end_from z (run_from start u.calls).sent) (sym same);
      allowed = k.allowed;
    }
