-- The payloads of a console: each holds the commands written into it, and what any of them ever held is the beginning of what it holds now.
use Prim.Native.Nat.{ℕ, ◌≤◌, ◌<◌}
use Rattle.std.proofs.Common.{Result, Ok, Err}
use Rattle.config.specs.declared.refusal.Refusal.{Refusal}
use Rattle.writing.specs.declared.writing.Written.{Written}
use Rattle.std.specs.Bool.{⊤}
use mathlib.Core.Path.{◌≡◌, refl, ap, sym, ◌∙◌}
use mathlib.Core.Logic.{◌⊎◌, inl, inr, ◌≢◌}
use mathlib.Core.Bool.{false, cond}
use mathlib.Core.List.{List, [], ◌∷◌, ◌++◌, append_assoc, append-nil}
use native.Mathlib.Omega.{arith}
use lib.Dec.{eqb}
use lib.ListN.{length, get_or, set, length-append, length-set, get_or-append}
use lib.Seq.{get_or_at, get_or-set_same, get_or-set_other, take_at, length-take-le, drop-append_seam}
use Rattle.config.specs.inner.Tests.{split, tests, lifts}
use Rattle.packet.specs.Layout.{Packet, payload_of}
use Rattle.command.specs.Calls.{Call, call_of, command_of, Typed, accepts}
use Rattle.command.proofs.RoundTrip.{call_outcome, typed_words}
use Rattle.delivery.specs.Commands.{Command, is_data, data_in, data_of}
use Rattle.delivery.specs.Console.{Lent, bytes, no_payload, lent_again, put_into, Entry, queued, wrote, stood, noted, Tag, held, added, tagged, Was, was_wrote, was_stood, was}
use Rattle.delivery.proofs.Lists.{length_none}
use Rattle.delivery.proofs.Payloads.{Holds, holds_data, holds_after}
use Rattle.delivery.proofs.Packets.{data_append}
use Rattle.delivery.proofs.Tags.{on, Indexed, on_tagged, indexed_tagged, same_payload}

-- ---- one payload

-- reading it finds the data commands cs
pub record Reads (v : Lent) (cs : List Command) : Type 0 where
  pub packets : List Packet
  pub holds : Holds v.payload v.buffer packets
  pub data_are : data_in packets ≡ cs

reads_data : (v : Lent) (cs : List Command) → Reads v cs → data_of (bytes v) ≡ cs
reads_data v cs r = holds_data v.payload v.buffer r.packets r.holds ∙ r.data_are

pub reads_opened : (max : ℕ) (buffer : List ℕ) → max ≤ 1400 → Reads record { payload = record { len = 0; max = max }; buffer = buffer } []
unfolding payload_of data_in
reads_opened max buffer l = record { packets = []; holds = record { opened = l; below = omega arith; inside = omega arith; bytes = refl; encodable = tt }; data_are = refl }

-- other bytes past the length
pub reads_lent : (rest : List ℕ) (v : Lent) (cs : List Command) → Reads v cs → Reads (lent_again rest v) cs
reads_lent rest v cs r =
    let n : length (bytes v) ≡ v.payload.len = length-take-le v.payload.len v.buffer r.holds.inside in
    record {
      packets = r.packets;
      holds = record {
        opened = r.holds.opened;
        below = r.holds.below;
        inside = omega (arith, length-append (bytes v) rest);
        bytes = take_at (bytes v) rest v.payload.len n ∙ r.holds.bytes;
        encodable = r.holds.encodable;
      };
      data_are = r.data_are;
    }

-- a command that is no data command
pub reads_put : (call : Call) (v : Lent) (cs : List Command) → Typed call → is_data (command_of call) ≡ false → Reads v cs → Reads (put_into call v) cs
unfolding data_in
reads_put call v cs typed other r =
    record {
      packets = accepts a r.packets (command_of call);
      holds = holds_after v.payload v.buffer (command_of call) r.packets _ (call_outcome call v.payload v.buffer) (typed_words call typed) r.holds;
      data_are = no_data a ∙ r.data_are;
    }
  where
    a : (Result ⊤ Refusal)
    a = (call_of call v.payload v.buffer).0.answer

    no_data : (a : Result ⊤ Refusal) → data_in (accepts a r.packets (command_of call)) ≡ data_in r.packets
    no_data (Ok _) = data_append r.packets (command_of call ∷ []) ∙ rw (other, append-nil)
    no_data (Err why) = refl

-- packets of a write
pub reads_more : (u v : Lent) (cs : List Command) (r : Reads u cs) (more : List Packet) → Holds v.payload v.buffer (r.packets ++ more) → Reads v (cs ++ data_in more)
reads_more u v cs r more h =
    record { packets = r.packets ++ more; holds = h; data_are = data_append r.packets more ∙ ap (λ (ds : List Command). ds ++ data_in more) r.data_are }

reads_held : (u : Lent) (cs : List Command) → Reads u cs → held u ≡ length cs
reads_held u cs r = ap length (reads_data u cs r)

pub reads_added : (u v : Lent) (cs ds : List Command) → Reads u cs → Reads v (cs ++ ds) → added u v ≡ ds
reads_added u v cs ds r s = rw (reads_data u cs r, reads_data v (cs ++ ds) s) (drop-append_seam cs ds)

-- ---- all payloads

abbrev pub Prefix : List Command → List Command → Type 0
Prefix cs ds = (rest : List Command) × (ds ≡ cs ++ rest)

-- each write that adds data commands finds a payload with none
abbrev pub Once : List Entry → Type 0
Once [] = Unit {0}
Once (queued cfg ws a ∷ t) = Once t
Once (wrote k u v a ∷ t) = ((added u v ≡ []) ⊎ (held u ≡ 0)) × Once t
Once (stood k v ∷ t) = Once t
Once (noted ∷ t) = Once t

abbrev NoneOrAll : Lent → List Command → Type 0
NoneOrAll v cs = (data_of (bytes v) ≡ []) ⊎ (data_of (bytes v) ≡ cs)

-- the payloads opened, the commands written into them, and the log
pub record Payloads (vs : List Lent) (w : List Tag) (t : List Entry) : Type 0 where
  pub indexed : Indexed w
  pub unopened : (k : ℕ) → length vs ≤ k → on k w ≡ []
  pub open_ones : (k : ℕ) → k < length vs → Reads (get_or vs k no_payload) (on k w)
  pub past : (k : ℕ) (v : Lent) → Was t k v → Prefix (data_of (bytes v)) (on k w)
  pub once : Once t → (k : ℕ) (v : Lent) → Was t k v → NoneOrAll v (on k w)

pub none_opened : Payloads [] [] []
none_opened = record {
  indexed = tt;
  unopened = λ k l. refl;
  open_ones = λ k l. absurd (let z : ⊥ = omega arith in z);
  past = λ k v h. elim h [ ];
  once = λ o k v h. elim h [ ];
}

-- an entry that touches no payload
pub payloads_quiet : (vs : List Lent) (w : List Tag) (t : List Entry) (e : Entry) → ((k : ℕ) (v : Lent) → Was (e ∷ t) k v → Was t k v) → (Once (e ∷ t) → Once t)
    → Payloads vs w t → Payloads vs w (e ∷ t)
payloads_quiet vs w t e quiet still i = record {
  indexed = i.indexed;
  unopened = i.unopened;
  open_ones = i.open_ones;
  past = λ k v h. i.past k v (quiet k v h);
  once = λ o k v h. i.once (still o) k v (quiet k v h);
}

reads_prefix : (v : Lent) (cs : List Command) → Reads v cs → Prefix (data_of (bytes v)) cs
reads_prefix v cs r = ([], sym (append-nil (data_of (bytes v)) ∙ reads_data v cs r))

prefix_more : (cs ds es : List Command) → Prefix cs ds → Prefix cs (ds ++ es)
prefix_more cs ds es h = (h.0 ++ es, ap (λ (x : List Command). x ++ es) h.1 ∙ append_assoc cs h.0 es)

past_stood : (t : List Entry) (j : ℕ) (u : Lent) (P : ℕ → Lent → Type 0) → P j u → ((k : ℕ) (v : Lent) → Was t k v → P k v) → (k : ℕ) (v : Lent) → Was (stood j u ∷ t) k v → P k v
past_stood t j u P here before k v (was_stood s i x) = here
past_stood t j u P here before k v (was e h) = before k v h

past_wrote : (t : List Entry) (j : ℕ) (o u : Lent) (a : Result Written Refusal) (P : ℕ → Lent → Type 0) → P j u → ((k : ℕ) (v : Lent) → Was t k v → P k v)
    → (k : ℕ) (v : Lent) → Was (wrote j o u a ∷ t) k v → P k v
past_wrote t j o u a P here before k v (was_wrote s i x y z) = here
past_wrote t j o u a P here before k v (was e h) = before k v h

-- one more is opened
pub payloads_opened : (vs : List Lent) (w : List Tag) (t : List Entry) (v : Lent) → Reads v [] → Payloads vs w t → Payloads (vs ++ (v ∷ [])) w (stood (length vs) v ∷ t)
payloads_opened vs w t v r i =
    let n = length-append vs (v ∷ []) in
    let new : Reads v (on (length vs) w) = rw (i.unopened (length vs) (omega arith)) r in
    record {
      indexed = i.indexed;
      unopened = λ k l. i.unopened k (omega arith);
      open_ones = λ k l. elim (split (eqb k (length vs))) [
        | inl e ↦
            let q : length vs ≡ k = omega (arith, tests) in
            rw (get_or_at vs v [] no_payload k q, ← q) new
        | inr e ↦
            let q : k < length vs = omega (arith, tests) in
            rw (get_or-append vs (v ∷ []) no_payload k q) (i.open_ones k q)
      ];
      past = past_stood t (length vs) v (λ k x. Prefix (data_of (bytes x)) (on k w)) (reads_prefix v (on (length vs) w) new) i.past;
      once = λ o. past_stood t (length vs) v (λ k x. NoneOrAll x (on k w)) (inr (reads_data v (on (length vs) w) new)) (i.once o);
    }

-- payload k is another, and holds more data commands
module _ (vs : List Lent) (w : List Tag) (t : List Entry) (i : Payloads vs w t) (k : ℕ) (l : k < length vs) (v : Lent) where
  changed : (s : List Tag) (more : List Command) → ((j : ℕ) → on j s ≡ cond (eqb j k) (on j w ++ more) (on j w)) → Reads v (on k w ++ more)
      → ((j : ℕ) → length (set vs k v) ≤ j → on j s ≡ []) × ((j : ℕ) → j < length (set vs k v) → Reads (get_or (set vs k v) j no_payload) (on j s))
  changed s more grows r =
      let n = length-set vs k v in (
        λ j m. let e : eqb j k ≡ false = omega (arith, lifts) in grows j ∙ rw e (i.unopened j (omega arith)),
        λ j m. elim (split (eqb j k)) [
          | inl e ↦
              let q : j ≡ k = omega (arith, tests) in
              rw (q, get_or-set_same vs k v no_payload l, grows k, same_payload k) r
          | inr e ↦
              let q : j ≢ k = omega (arith, tests) in
              rw (get_or-set_other vs k j v no_payload q, grows j, e) (i.open_ones j (omega arith))
        ],
      )

  -- as another call left it
  pub payloads_stood : Reads v (on k w) → Payloads (set vs k v) w (stood k v ∷ t)
  payloads_stood r =
      let c = changed w [] (λ j. elim (split (eqb j k)) [ inl e ↦ rw (e, append-nil) | inr e ↦ rw e ]) (rw append-nil r) in
      record {
        indexed = i.indexed;
        unopened = c.0;
        open_ones = c.1;
        past = past_stood t k v (λ j x. Prefix (data_of (bytes x)) (on j w)) (reads_prefix v (on k w) r) i.past;
        once = λ o. past_stood t k v (λ j x. NoneOrAll x (on j w)) (inr (reads_data v (on k w) r)) (i.once o);
      }

  -- as a write left it
  pub payloads_wrote : (u : Lent) (a : Result Written Refusal) (more : List Command) → Reads u (on k w) → Reads v (on k w ++ more)
      → Payloads (set vs k v) (tagged k (held u) (added u v) w) (wrote k u v a ∷ t)
  payloads_wrote u a more before after =
      let s : List Tag = tagged k (held u) (added u v) w in
      let grows : (j : ℕ) → on j s ≡ cond (eqb j k) (on j w ++ more) (on j w) =
      λ j. on_tagged j k (held u) (added u v) w ∙ rw (reads_added u v (on k w) more before after) in
      let c = changed s more grows after in
      let here : on k s ≡ on k w ++ more = grows k ∙ rw (same_payload k) in
      record {
        indexed = indexed_tagged k (held u) (added u v) w i.indexed (reads_held u (on k w) before);
        unopened = c.0;
        open_ones = c.1;
        past = past_wrote t k u v a (λ j x. Prefix (data_of (bytes x)) (on j s)) (reads_prefix v (on k s) (rw here after))
            (λ j x h. rw (grows j) (elim (split (eqb j k)) [
              | inl e ↦ rw e (prefix_more (data_of (bytes x)) (on j w) more (i.past j x h))
              | inr e ↦ rw e (i.past j x h)
            ]));
        once = λ o. past_wrote t k u v a (λ j x. NoneOrAll x (on j s)) (inr (reads_data v (on k s) (rw here after)))
            (λ j x h. rw (grows j) (elim (split (eqb j k)) [
              | inl e ↦ let q : j ≡ k = omega (arith, tests) in rw (e, q) (first x o.0 (rw q at (i.once o.1 j x h)))
              | inr e ↦ rw e (i.once o.1 j x h)
            ]));
      }
    where
      -- nothing is added, or nothing was there
      first : (x : Lent) → (added u v ≡ []) ⊎ (held u ≡ 0) → NoneOrAll x (on k w) → NoneOrAll x (on k w ++ more)
      first x o (inl h) = inl h
      first x (inl o) (inr h) = inr (rw (sym (reads_added u v (on k w) more before after) ∙ o, append-nil) h)
      first x (inr o) (inr h) = inl (h ∙ length_none (on k w) (omega (arith, reads_held u (on k w) before)))
