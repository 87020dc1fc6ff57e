-- Words that fit, and the words of one end beside those of the other.
use mathlib.Core.Path.{◌≡◌, refl, sym, ap, ◌∙◌}
use mathlib.Core.Bool.{true}
use mathlib.Core.List.{List, ◌++◌, append-nil}
use Prim.Native.Nat.{ℕ, ◌+◌, ◌≤◌}
use native.Mathlib.Omega.{arith}
use lib.ListN.{length, take, drop, drop_of_length-le}
use Rattle.packet.specs.Bytes.{spliced}
use Rattle.packet.proofs.Splice.{drop_spliced, take_before_spliced}
use Rattle.receiver.specs.declared.receiver.Receiver.{Receiver}
use Rattle.sender.specs.declared.sender.Sender.{Sender}
use Rattle.c_state.specs.Receiver.{receiver_words}
use Rattle.c_state.specs.Sender.{sender_words}
use Rattle.c_state.specs.Stream.{stream_words, receiver_fits, sender_fits, fits, receiver_in, sender_in, stored, receiver_part, sender_part, with_receiver, with_sender}
use Rattle.c_state.proofs.Senders.{length_sender}
use Rattle.c_state.proofs.Streams.{receiver_known, sender_known, both_fit, receiver_part_same, sender_part_same}

-- ---- words that fit
module _ (ws : List ℕ) where
  pub receiver_whole : receiver_fits ws ≡ true → length ws ≡ stream_words
  receiver_whole e = (receiver_known ws e).0

  pub sender_whole : sender_fits ws ≡ true → length ws ≡ stream_words
  sender_whole e = (sender_known ws e).0

  pub both_receiver : fits ws ≡ true → receiver_fits ws ≡ true
  both_receiver e = (both_fit ws e).0

  pub both_sender : fits ws ≡ true → sender_fits ws ≡ true
  both_sender e = (both_fit ws e).1

  pub both_whole : fits ws ≡ true → length ws ≡ stream_words
  both_whole e = sender_whole (both_sender e)

-- ---- the words of the other end
module _ (ws : List ℕ) (l : length ws ≡ stream_words) where
  pub sender_stays : (r : Receiver) → sender_part (with_receiver ws r) ≡ sender_part ws
  unfolding receiver_words
  sender_stays r = drop_spliced ws 0 (receiver_words r) (omega arith)

  pub receiver_stays : (s : Sender) → receiver_part (with_sender ws s) ≡ receiver_part ws
  receiver_stays s = take_before_spliced ws 7 (sender_words s) (omega (arith, length_sender s))

  -- the words after a call, end to end
  receiver_first : (r : Receiver) → with_receiver ws r ≡ receiver_words r ++ drop 7 ws
  unfolding spliced receiver_words
  receiver_first r = refl

  sender_last : (s : Sender) → with_sender ws s ≡ take 7 ws ++ sender_words s
  unfolding spliced
  sender_last s =
      let k = length_sender s in
      let h : length ws ≤ 7 + length (sender_words s) = omega arith in
      rw (drop_of_length-le ws h) (append-nil (take 7 ws ++ sender_words s))

module _ (ws : List ℕ) (all : fits ws ≡ true) where
  pub receiver_stored : (r : Receiver) → with_receiver ws r ≡ stored record { sender = sender_in ws; receiver = r }
  unfolding stored
  receiver_stored r = receiver_first ws (both_whole ws all) r ∙ ap (λ (x : List ℕ). receiver_words r ++ x) (sym (sender_part_same ws (both_sender ws all)))

  pub sender_stored : (s : Sender) → with_sender ws s ≡ stored record { sender = s; receiver = receiver_in ws }
  unfolding stored
  sender_stored s = sender_last ws (both_whole ws all) s ∙ ap (λ (x : List ℕ). x ++ sender_words s) (sym (receiver_part_same ws (both_receiver ws all)))
