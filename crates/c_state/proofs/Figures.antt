-- Words, written out: a fresh stream's, a busy one's, and some that are no stream's.
use mathlib.Core.Path.{◌≡◌, refl}
use Rattle.std.proofs.Common.{Some}
use mathlib.Core.Bool.{true, false}
use mathlib.Core.List.{List, [], ◌∷◌}
use Prim.Native.Nat.{ℕ}
use lib.ListN.{set, replicate}
use Rattle.history.specs.Queue.{blank}
use Rattle.window.specs.Set.{set_of}
use Rattle.stream.specs.State.{fresh}
use Rattle.stream.specs.declared.stream.DataStream.{DataStream}
use Rattle.c_state.specs.Pack.{four_in, word, two_in, pair, flags_in, flags_number, held}
use Rattle.c_state.specs.Receiver.{receiver_words, holds_but_timer, receiver_holds}
use Rattle.c_state.specs.Sender.{figure_words, request_words, sender_words, sender_holds}
use Rattle.c_state.specs.Stream.{receiver_fits, sender_fits, fits, stored}

-- a window of 64, a history of 256 words, a ring of 4
fresh_words : List ℕ
fresh_words =
    18446744073709551615 ∷ 0 ∷ 0 ∷ 0 ∷ 0 ∷ 4259839 ∷ 0
    ∷ 0 ∷ 16777216 ∷ 1125899906842624 ∷ 0 ∷ 0
    ∷ 0 ∷ 0 ∷ 0 ∷ 0 ∷ 0 ∷ 0 ∷ 0 ∷ 0 ∷ []

fresh_words_lem : stored (fresh 64 256 4) ≡ fresh_words
unfolding fresh_words stored set_of receiver_words sender_words figure_words request_words word pair flags_number
fresh_words_lem = refl

-- a timer that has asked twice and runs, a request due, one unanswered; two requests wait, one of them from place 1 on, and the idle timer waits
busy : DataStream
busy =
    record {
      receiver = record {
        window = record { size = 128; highest = 258; bits = record { low = 5; high = 1 } };
        timer = Some record { due = 1000; sent = 2 };
        request_due = true;
        refused = false;
        asked = Some record { seq = 256; count = 3 };
      };
      sender = record {
        history = record { size = 4096; head = 10; used = 300; count = 7; oldest = 65533; last = 280 };
        queue = record {
          items = blank ∷ record { seq = 65530; count = 1 } ∷ record { seq = 65532; count = 0 } ∷ replicate 13 blank;
          head = 1;
          len = 2;
          size = 16;
        };
        unsent = 2;
        unsent_words = 20;
        idle = Some record { due = 2000; step = 3; interval = 200 };
      };
    }

busy_words : List ℕ
busy_words =
    5 ∷ 1 ∷ 0 ∷ 0 ∷ 1000 ∷ 845524450148610 ∷ 2818
    ∷ 18445899678863851530 ∷ 5629508392583448 ∷ 76561206550331393 ∷ 2000 ∷ 200
    ∷ 562924183617536 ∷ 65532 ∷ 0 ∷ 0 ∷ 0 ∷ 0 ∷ 0 ∷ 0 ∷ []

busy_words_lem : stored busy ≡ busy_words
unfolding busy busy_words stored receiver_words sender_words figure_words request_words word pair flags_number
busy_words_lem = refl

busy_taken : fits busy_words ≡ true
unfolding busy_words fits receiver_fits sender_fits receiver_holds holds_but_timer sender_holds four_in two_in flags_in held
busy_taken = refl

-- ---- words that are no stream's
-- a position above the set's two words, a fifth flag, a due time beside a timer that does not run
upper_refused : receiver_fits (set busy_words 2 1) ≡ false
unfolding busy_words receiver_fits receiver_holds holds_but_timer four_in two_in flags_in held
upper_refused = refl

flag_refused : receiver_fits (set busy_words 6 4096) ≡ false
unfolding busy_words receiver_fits receiver_holds holds_but_timer four_in two_in flags_in held
flag_refused = refl

due_refused : receiver_fits (set fresh_words 4 1) ≡ false
unfolding fresh_words receiver_fits receiver_holds holds_but_timer four_in two_in flags_in held
due_refused = refl

-- a second flag of the sender, an idle step beside a timer that is off
second_refused : sender_fits (set busy_words 9 148618800588259329) ≡ false
unfolding busy_words sender_fits sender_holds four_in two_in held
second_refused = refl

step_refused : sender_fits (set fresh_words 9 1125904201809920) ≡ false
unfolding fresh_words sender_fits sender_holds four_in two_in held
step_refused = refl
