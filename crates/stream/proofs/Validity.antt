-- The state test of both ends: its ways out, and what a stream that passes it is.
use mathlib.Core.Path.{◌≡◌}
use mathlib.Core.Bool.{Bool, true, false}
use mathlib.Core.List.{List}
use Prim.Native.Nat.{ℕ}
use Rattle.config.specs.inner.Tests.{and_left, and_right}
use Rattle.receiver.specs.Receiver.{valid_of as receiver_valid}
use Rattle.sender.specs.State.{valid_of as sender_valid}
use Rattle.stream.specs.State.{valid_of}
use Rattle.stream.specs.declared.stream.DataStream.{DataStream}

module _ (s : DataStream) (ring : List ℕ) where
  pub test_receiver : receiver_valid s.receiver ≡ false → false ≡ valid_of s ring
  unfolding valid_of
  test_receiver r = rw r

  pub test_sender : receiver_valid s.receiver ≡ true → (b : Bool) → b ≡ sender_valid s.sender ring → b ≡ valid_of s ring
  unfolding valid_of
  test_sender r b e = rw r e

  module _ (v : valid_of s ring ≡ true) where
    pub valid_receiver : receiver_valid s.receiver ≡ true
    unfolding valid_of
    valid_receiver = and_left (receiver_valid s.receiver) _ v

    pub valid_sender : sender_valid s.sender ring ≡ true
    unfolding valid_of
    valid_sender = and_right (receiver_valid s.receiver) _ v
