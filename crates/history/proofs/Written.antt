-- An entry as a data command: the two runs of its words, and the entry of the list that it is.
use Rattle.std.proofs.Common.{◌≡◌, ℕ, ◌+◌, ◌-◌, ◌/◌, ◌%◌, ◌<◌, ◌≤◌, List, [], ◌++◌, length, get_or, take, drop, ◌∙◌, arith}
use Rattle.config.specs.Sequence.{after}
use Rattle.packet.specs.Layout.{packet}
use Rattle.packet.specs.Write.{written_of}
use Rattle.packet.specs.declared.writer.PayloadWriter.{PayloadWriter}
use Rattle.packet.specs.declared.writer.Wrote.{Wrote}
use Rattle.history.specs.Ring.{slot_of, run_of}
use Rattle.history.specs.Headers.{number_at, length_at, words_at, header_at}
use Rattle.history.specs.Entries.{Holds}
use Rattle.history.specs.Written.{data_packet, entry_packet}
use Rattle.history.specs.declared.history.SendHistory.{SendHistory}
use Rattle.history.proofs.Slots.{slot_in}
use Rattle.history.proofs.View.{read_parts}
use Rattle.history.proofs.Entries.{holds_words_at, holds_number_at}

pub entry_written : (p : PayloadWriter) (b ring : List ℕ) (i n number start run : ℕ) (r : Wrote × List ℕ)
    → i < length ring → length_at ring i ≤ length ring → 1 ≤ length ring
    → n ≡ length_at ring i → number ≡ number_at ring i
    → start ≡ slot_of (length ring) i 1 → run ≡ run_of (length ring) start n
    → r ≡ written_of p b (packet 255 (number / 256) (number % 256) (take (start + run - start) (drop start ring) ++ take (n - run - 0) (drop 0 ring)))
    → r ≡ written_of p b (entry_packet ring i)
unfolding entry_packet
entry_written p b ring i n number start run r inside fits some en enumber es er e =
    let z : start + run - start ≡ run = omega arith in
    let y : n - run - 0 ≡ n - run = omega arith in
    let w : take run (drop start ring) ++ take (n - run) ring ≡ words_at ring i =
    rw (er, es, en) (read_parts (length_at ring i) ring (slot_of (length ring) i 1) (slot_in (length ring) i 1 inside some) fits) in
    e ∙ rw (z, y, w, enumber)

-- entry k of the list, with the number k after the oldest
pub holds_packet_at : (h : SendHistory) (b : List ℕ) (es : List (List ℕ)) → Holds h b es → (k : ℕ) → k < h.count
    → entry_packet b (header_at k b h.head) ≡ data_packet (after h.oldest k) (get_or es k [])
unfolding entry_packet
holds_packet_at h b es a k p = rw (holds_number_at h b es a k p, holds_words_at h b es a k p)
