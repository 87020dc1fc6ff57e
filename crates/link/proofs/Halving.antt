-- The halves of a step, and the step.
use Prim.Native.Nat.{ℕ, ◌+◌, ◌≤◌}
use Rattle.std.proofs.Common.{Option}
use Rattle.command.specs.declared.retransmit.RetransmitError.{RetransmitError}
use mathlib.Core.Path.{◌≡◌, ap, ap₂, ◌∙◌}
use mathlib.Core.List.{List}
use native.Mathlib.Omega.{arith}
use lib.ListN.{length, length-take}
use Rattle.config.specs.declared.settings.StreamConfig.{StreamConfig}
use Rattle.packet.specs.Read.{items_of}
use Rattle.stream.specs.declared.stream.DataStream.{DataStream}
use Rattle.load.specs.Load.{next, draw_of}
use Rattle.load.specs.declared.load.Load.{Load}
use Rattle.link_rules.specs.Arriving.{Arrived, arrived_of, handed_in, losses_in}
use Rattle.link_tally.specs.Tally.{tallied, unread}
use Rattle.link_rules.specs.Link.{Ends, carried, calls_of, step_of}
use Rattle.link.specs.Turns.{Turn, wrote_into, console_of, chamber_of, poll_loss, part_of, turn_of, there_of, back_of, ends_of}
use Rattle.link_tally.specs.declared.arriving.Tally.{Tally}
use Rattle.link.specs.declared.turns.Turn.{Turn as Turned}
use Rattle.link.specs.declared.halves.Gone.{Gone}
use Rattle.link.specs.declared.halves.Come.{Come}
use Rattle.link.specs.declared.link.State.{State}

pub part_short : (n : ℕ) (buf part : List ℕ) → part ≡ part_of n buf → length buf ≡ 1400 → length part ≤ 1400
unfolding part_of
part_short n buf part e l = rw e (simp length-take (omega arith))

module _ (console chamber : DataStream) (cfg : StreamConfig) (time : ℕ) where
  pub there_is : (x y figure : ℕ) (w : Option RetransmitError) (ring other : List ℕ) (t : Turned) (buf after : List ℕ) → turn_of t buf after ≡ console_of console cfg time ring x w
      → (part : List ℕ) → part ≡ part_of t.len buf → (r : Tally) → r ≡ tallied (unread chamber) (arrived_of chamber cfg time other (carried figure y part))
      → ◌≡◌ {A = Gone × List ℕ} (record { console = t.stream; chamber = r }, after) (there_of console chamber cfg time x y figure w ring other)
  unfolding there_of
  there_is x y figure w ring other t buf after e part p r h =
      ap (λ (z : Tally). (record { console = t.stream; chamber = z }, after)) (h ∙ ap (λ (b : List ℕ). tallied (unread chamber) (arrived_of chamber cfg time other (carried figure y b))) p)
      ∙ ap (λ (c : Turn). (record { console = c.stream; chamber = tallied (unread chamber) (arrived_of chamber cfg time other (carried figure y c.bytes)) }, c.ring)) e

  pub back_is : (ring other : List ℕ) (t : Turned) (buf after : List ℕ) → turn_of t buf after ≡ chamber_of chamber cfg time other → t.losses ≡ poll_loss chamber cfg time
      → (part : List ℕ) → part ≡ part_of t.len buf → (r : Tally) → r ≡ tallied (unread console) (arrived_of console cfg time ring (items_of part))
      → ◌≡◌ {A = Come × List ℕ} (record { console = r; chamber = t.stream; losses = t.losses }, after) (back_of console chamber cfg time ring other)
  unfolding back_of
  back_is ring other t buf after e l part p r h =
      ap₂ (λ (z : Tally) (n : ℕ). (record { console = z; chamber = t.stream; losses = n }, after)) (h ∙ ap (λ (b : List ℕ). tallied (unread console) (arrived_of console cfg time ring (items_of b))) p) l
      ∙ ap (λ (d : Turn). (record { console = tallied (unread console) (arrived_of console cfg time ring (items_of d.bytes)); chamber = d.stream; losses = poll_loss chamber cfg time }, d.ring)) e

-- the two halves, one after the other
module _ (s : State) (cfg : StreamConfig) (time figure : ℕ) (ring other : List ℕ) where
  pub step_is : (load line : Load) → load ≡ draw_of s.load → line ≡ draw_of s.line
      → (g : Gone) (after : List ℕ) → (g, after) ≡ there_of s.console s.chamber cfg time load.last line.last figure s.waiting ring other
      → (k : Come) (last : List ℕ) → (k, last) ≡ back_of g.console g.chamber.stream cfg time after other
      → ends_of
      (record {
        console = k.console.stream;
        chamber = k.chamber;
        waiting = k.console.waiting;
        load = load;
        line = line;
        handed = s.handed + g.chamber.handed;
        losses = s.losses + g.chamber.losses + k.losses;
      })
      (time + 1) after last
      ≡ step_of cfg figure (ends_of s time ring other)
  unfolding step_of calls_of there_of back_of console_of chamber_of wrote_into
  step_is load line p q g after t k last b =
      ap (λ (z : Come × List ℕ). whole load.last line.last (g, after) z) b
      ∙ ap (λ (z : Gone × List ℕ). whole load.last line.last z (back_from z)) t
      ∙ ap₂ (λ (x y : ℕ). let z = there_of s.console s.chamber cfg time x y figure s.waiting ring other in whole x y z (back_from z)) (ap (λ (l : Load). l.last) p) (ap (λ (l : Load). l.last) q)
      ∙ ap₂ (λ (n m : ℕ). counted n m) (none (handed_in heard.answers)) (none (losses_in heard.answers))
    where
      heard : Arrived
      heard = (calls_of cfg figure (ends_of s time ring other)).heard

      none : (n : ℕ) → 0 + n ≡ n
      none n = omega arith

      whole : ℕ → ℕ → Gone × List ℕ → Come × List ℕ → Ends
      whole x y g k =
          record {
            console = k.0.console.stream;
            console_ring = g.1;
            chamber = k.0.chamber;
            chamber_ring = k.1;
            waiting = k.0.console.waiting;
            load = x;
            line = y;
            steps = time + 1;
            handed = s.handed + g.0.chamber.handed;
            losses = s.losses + g.0.chamber.losses + k.0.losses;
          }

      back_from : Gone × List ℕ → Come × List ℕ
      back_from z = back_of z.0.console z.0.chamber.stream cfg time z.1 other

      counted : ℕ → ℕ → Ends
      counted n m =
          let z = there_of s.console s.chamber cfg time (next s.load.last) (next s.line.last) figure s.waiting ring other in
          let k = back_from z in
          record {
            console = k.0.console.stream;
            console_ring = z.1;
            chamber = k.0.chamber;
            chamber_ring = k.1;
            waiting = k.0.console.waiting;
            load = next s.load.last;
            line = next s.line.last;
            steps = time + 1;
            handed = s.handed + n;
            losses = s.losses + m + k.0.losses;
          }
