-- A write into an empty payload with room for R + 1 commands: the last R written ones, or all, and then the new one; or nothing, where none is unwritten and none is due.
use Prim.Native.Nat.{ℕ, suc, ◌+◌, ◌-◌, ◌*◌, ◌%◌, ◌≤◌, min}
use mathlib.Core.Path.{◌≡◌, refl, ap, ap₂, sym, ◌∙◌}
use mathlib.Core.Bool.{true, cond}
use mathlib.Core.List.{List, [], ◌∷◌, ◌++◌, append_assoc}
use native.Mathlib.Nat.{suc-mul, add-mul, one-mul, mul-le-mul_right}
use native.Mathlib.Omega.{arith}
use borrow.Author.Tests.{le-leb, eq-eqb}
use lib.Dec.{eqb}
use lib.ListN.{length, get_or, take, drop, length-append, length-drop, take-append-drop}
use lib.Seq.{get_or_at, take-length, drop-length, length-take-le}
use Rattle.config.specs.Sequence.{turn, after}
use Rattle.config.specs.declared.settings.StreamConfig.{StreamConfig}
use Rattle.packet.specs.Layout.{Packet, payload_of, Encodable}
use Rattle.packet.specs.Write.{limit_of, start_of, valid_of as payload_valid}
use Rattle.packet.specs.declared.writer.PayloadWriter.{PayloadWriter}
use Rattle.command.specs.declared.retransmit.RetransmitRequest.{RetransmitRequest}
use Rattle.history.specs.Written.{data_packet}
use Rattle.rows.specs.Rows.{row_of, sizes_of, fit_all}
use Rattle.rows.specs.Choice.{repeats_of}
use Rattle.sender_log.specs.Book.{Book, oldest_in, with_waiting}
use Rattle.sender_log.specs.Writes.{data_from, written_from, new_in, served_in, idled_in, again_in, WriteIn, new_by, new_written, written_in, write_in}
use Rattle.sender_log.proofs.Rows.{row_all, sizes_append}
use Rattle.sender_log.proofs.Rows as Rows
use Rattle.delivery.specs.Commands.{Command, data_in, data_of}
use Rattle.delivery.specs.Positions.{contents, numbered}
use Rattle.delivery.specs.Console.{Lent, bytes, held}
use Rattle.delivery.specs.Repeats.{commands_from, last_of, Brought, nothing, one}
use Rattle.delivery.specs.Paced.{Ready}
use Rattle.delivery.proofs.Lists.{All, all_append, all_right, all_drop}
use Rattle.delivery.proofs.Wires.{numbered_from}
use Rattle.delivery.proofs.Sound.{Sound}
use Rattle.delivery.proofs.Packets.{data_append, data_from_lem, from_encodable}
use Rattle.delivery.proofs.Payloads.{Holds, holds_data, holds_row}
use Rattle.delivery.proofs.Books.{Agrees}
use Rattle.delivery.proofs.Writing.{idled_agrees}
use Rattle.delivery.proofs.Room.{Few, Open, Kept, idled_kept, written_kept}
use Rattle.delivery.proofs.Room as Room

-- ---- commands and their sizes

sizes_few : (s n : ℕ) (es : List (List ℕ)) → All (Few s) es → sizes_of (data_from n es) ≤ length es * (4 + 4 * s)
unfolding sizes_of data_from
sizes_few s n [] h = omega arith
sizes_few s n (e ∷ es) h = rw (suc-mul (length es) (4 + 4 * s)) (omega (arith, sizes_few s (after n 1) es h.1, h.0))

encodable_few : (cs : List Packet) → All Encodable cs → Rows.Few cs
unfolding Rows.Few
encodable_few [] h = tt
encodable_few (c ∷ cs) h = (h.0.few, encodable_few cs h.1)

-- all are repeated that fit together beside the new one
repeats_all : (p : PayloadWriter) (by : List ℕ) (first : Packet) (cs : List Packet) → fit_all p by (first ∷ cs) ≡ true → repeats_of p by first cs ≡ cs
unfolding repeats_of
repeats_all p by first [] e = refl
repeats_all p by first (c ∷ cs) e = rw e

-- positions from p on are the commands from p on
commands_numbered : (es xs C : List (List ℕ)) (p : ℕ) → C ≡ xs ++ es → length xs ≡ p → commands_from C p (length es) ≡ numbered_from p es
commands_numbered [] xs C p e l = refl
commands_numbered (ws ∷ es) xs C p e l =
    let here : get_or C p [] ≡ ws = ap (λ (D : List (List ℕ)). get_or D p []) e ∙ get_or_at xs ws es [] p l in
    let q : C ≡ (xs ++ (ws ∷ [])) ++ es = e ∙ sym (append_assoc xs (ws ∷ []) es) in
    let k : length (xs ++ (ws ∷ [])) ≡ suc p = rw (length-append xs (ws ∷ [])) (omega arith) in
    rw (here, commands_numbered es (xs ++ (ws ∷ [])) C (suc p) q k)

-- ---- the write

-- none is left unwritten, and the payload brings what it should
abbrev pub Right : (R s c : ℕ) (history : (R + 1) * (1 + s) ≤ c) → Lent → List Command → WriteIn → Type 0
Right R s c history v w a = Kept R s c history 0 a.book × Brought R (contents w) v record { payload = a.payload; buffer = a.bytes }

module _ (R s c : ℕ) (history : (R + 1) * (1 + s) ≤ c) (most : c ≤ 32768) (cfg : StreamConfig) (time : ℕ) (v : Lent) (ready : Ready R s cfg v) (opened : v.payload.max ≤ 1400) where
  abbrev p : PayloadWriter
  p = v.payload

  abbrev by : List ℕ
  by = v.buffer

  room : 4 + (R * (4 + 4 * s) + (4 + 4 * s)) ≤ limit_of p (length by)
  room = let e : (R + 1) * (4 + 4 * s) ≡ R * (4 + 4 * s) + (4 + 4 * s) = rw (add-mul R 1 (4 + 4 * s), one-mul (4 + 4 * s)) in omega (arith, ready.limit, ready.lent)

  begins : start_of p ≡ 4
  begins = ap (λ (n : ℕ). cond (eqb n 0) 4 n) ready.empty

  valid : payload_valid p (length by) ≡ true
  unfolding payload_valid
  valid = rw (le-leb 8 p.max (omega (arith, room)), le-leb p.max 1400 (opened), eq-eqb p.len 0 ready.empty)

  holds_none : Holds p by []
  unfolding payload_of
  holds_none = record { opened = opened; below = omega (arith, ready.empty); inside = omega (arith, ready.empty); bytes = ap (λ (n : ℕ). take n by) ready.empty; encodable = tt }

  held_none : held v ≡ 0
  unfolding data_in
  held_none = ap length (holds_data p by [] holds_none)

  -- the last R, where they are held
  module _ (b : Book) (accepted : List ℕ) (w : List Command) (i : Agrees c b accepted w) (k : Room.Enough R s c history b.first b.written b.waiting) where
    abbrev C : List (List ℕ)
    C = contents w

    count : length C ≡ b.first + length b.written
    count = ap length i.wire.positions ∙ omega (arith, length-append i.gone b.written, i.oldest)

    abbrev j : ℕ
    j = length b.written - min R (length b.written)

    abbrev repeated : List (List ℕ)
    repeated = drop j b.written

    abbrev again : List Packet
    again = written_from b j

    again_is : data_in again ≡ last_of R C
    again_is =
        let n : after (oldest_in b) j ≡ (b.first + j) % turn = omega arith in
        let l : length repeated ≡ min R (length C) = omega (arith, length-drop j b.written, count, k.last) in
        let at : length C - R ≡ b.first + j = omega (arith, count, k.last) in
        let e : C ≡ (i.gone ++ take j b.written) ++ repeated =
        i.wire.positions ∙ ap (λ (es : List (List ℕ)). i.gone ++ es) (sym (take-append-drop j b.written)) ∙ sym (append_assoc i.gone (take j b.written) repeated) in
        let m : length (i.gone ++ take j b.written) ≡ b.first + j =
        length-append i.gone (take j b.written) ∙ omega (arith, length-take-le j b.written (omega arith), i.oldest) in
        ap (λ (x : ℕ). data_in (data_from x repeated)) n ∙ data_from_lem repeated (b.first + j) ∙ sym (commands_numbered repeated (i.gone ++ take j b.written) C (b.first + j) e m)
        ∙ ap₂ (commands_from C) (sym at) l

    -- and a new one
    module _ (ws : List ℕ) (few : length ws ≤ s) (sound : Sound ws) where
      abbrev first : Packet
      first = data_packet (after (oldest_in b) (length b.written)) ws

      abbrev row : List Packet
      row = again ++ (first ∷ [])

      new_is : data_in (first ∷ []) ≡ numbered (length C) ws ∷ []
      unfolding data_from
      new_is =
          let n : after (oldest_in b) (length b.written) ≡ length C % turn = omega (arith, count) in
          ap (λ (x : ℕ). data_in (data_from x (ws ∷ []))) n ∙ data_from_lem (ws ∷ []) (length C)

      row_encodable : All Encodable row
      row_encodable =
          all_append Encodable again (first ∷ []) (from_encodable repeated _ (all_drop Sound j b.written (all_right Sound i.gone b.written i.old)))
          (record { few = omega (arith, sound.short); words32 = sound.words32 }, tt)

      sizes : sizes_of again + (4 + 4 * length ws) ≤ R * (4 + 4 * s) + (4 + 4 * s)
      sizes =
          omega (
            arith,
            sizes_few s (after (oldest_in b) j) repeated (all_drop (Few s) j b.written k.few),
            mul-le-mul_right (4 + 4 * s) (let l : length repeated ≤ R = omega (arith, length-drop j b.written) in l),
          )

      first_fits : fit_all p by (first ∷ []) ≡ true
      unfolding sizes_of
      first_fits = le-leb (start_of p + sizes_of (first ∷ [])) (limit_of p (length by)) (rw begins (omega (arith, room, sizes)))

      all_fit : fit_all p by (first ∷ again) ≡ true
      unfolding sizes_of
      all_fit = le-leb (start_of p + sizes_of (first ∷ again)) (limit_of p (length by)) (rw begins (omega (arith, room, sizes)))

      row_fits : start_of p + sizes_of row ≤ limit_of p (length by)
      unfolding sizes_of
      row_fits = rw begins (omega (arith, room, sizes, sizes_append again (first ∷ [])))

      all_written : (row_of p by row).written ≡ length row
      all_written = (row_all row p by (encodable_few row row_encodable) valid row_fits).1

      row_data : data_of (bytes record { payload = (row_of p by row).payload; buffer = (row_of p by row).bytes }) ≡ last_of R C ++ (numbered (length C) ws ∷ [])
      row_data =
          let h : Holds (row_of p by row).payload (row_of p by row).bytes row = rw (all_written, take-length) at (holds_row row p by [] row_encodable holds_none) in
          holds_data _ _ row h ∙ data_append again (first ∷ []) ∙ ap₂ (λ (xs ys : List Command). xs ++ ys) again_is new_is

      again_all : again_in b cfg.fec_repeats p by first ≡ again
      again_all = ap (λ (r : ℕ). again_in b r p by first) ready.repeats ∙ repeats_all p by first again all_fit

      new_right : b.unwritten ≡ ws ∷ [] → Right R s c history v w (new_by cfg time 0 b p by (first ∷ []))
      new_right e =
          let n : length row - length again ≡ 1 = omega (arith, length-append again (first ∷ [])) in
          rw (first_fits, again_all, all_written, n) (written_kept R s c history cfg time b ws few k e, one held_none ws row_data)

  -- ---- whatever is unwritten

  new_brings : (n : ℕ) (b : Book) (accepted : List ℕ) (w : List Command) → Agrees c b accepted w → Kept R s c history n b → n ≤ s → Right R s c history v w (new_written cfg time 0 b p by)
  unfolding new_written data_from
  new_brings n b accepted w i k l = go b.unwritten refl k.unwritten
    where
      at : ℕ
      at = after (oldest_in b) (length b.written)

      go : (us : List (List ℕ)) → b.unwritten ≡ us → Open n us → Right R s c history v w (new_by cfg time 0 b p by (new_in b))
      go us e Room.none =
          rw (ap (data_from at) e)
          (record { holding = k.holding; unwritten = rw e Room.none }, nothing (drop-length (data_of (bytes v))))
      go us e (Room.one ws m) =
          rw (ap (data_from at) e)
          (new_right b accepted w i k.holding ws (omega arith) (rw e at i.new).0 e)

  pub write_brings : (n : ℕ) (b : Book) (accepted : List ℕ) (w : List Command) → Agrees c b accepted w → Kept R s c history n b → n ≤ s → 1 ≤ c
      → Right R s c history v w (write_in c cfg time b p by)
  unfolding write_in written_in served_in
  write_brings n b accepted w i k l some =
      let served : served_in b b.waiting p by ≡ served_in b [] p by = ap (λ (rs : List RetransmitRequest). served_in b rs p by) k.holding.no_request in
      let left : Kept R s c history n (with_waiting b []) = record { holding = record { no_request = refl; few = k.holding.few; last = k.holding.last }; unwritten = k.unwritten } in
      rw (ready.passes, valid, served)
      (new_brings n (idled_in c cfg time (with_waiting b [])) accepted w (idled_agrees c most (with_waiting b []) accepted w i cfg time some) (idled_kept R s c history n (with_waiting b []) cfg time left l) l)
