-- The answers of `parsed_of`, each from the code and the first word.
use mathlib.Core.Path.{◌≡◌, ◌∙◌}
use Rattle.std.proofs.Common.{Some, None, Ok, Err}
use mathlib.Core.List.{List, [], ◌∷◌}
use Prim.Native.Nat.{ℕ, ◌/◌}
use lib.ListN.{drop, drop_of_length-le}
use lib.Seq.{drop-cons}
use borrow.Author.Tests.{eq-eqb, ne_eqb}
use Rattle.config.specs.declared.refusal.Refusal.TheVariants.{Malformed}
use Rattle.packet.specs.Bytes.{words_of}
use Rattle.packet.specs.Read.{csd_of, word_at}
use Rattle.packet.specs.declared.cursor.Header.{Header}
use Rattle.packet.proofs.Reading.{word_found, word_missed}
use Rattle.command.specs.Parse.{request_in, error_in, parsed_of}
use Rattle.command.specs.declared.parse.Command.TheVariants.{UmpData, RetransmitRequest, RetransmitError, Raw}

words_of_none : (b : List ℕ) → word_at b 0 ≡ None → words_of b ≡ []
words_of_none b e = drop_of_length-le (words_of b) (word_missed b 0 e)

words_of_first : (b : List ℕ) (w : ℕ) → word_at b 0 ≡ Some w → words_of b ≡ w ∷ drop 1 (words_of b)
words_of_first b w e =
    let f = word_found b 0 w e in
    drop-cons (words_of b) 0 0 f.0 ∙ rw (← f.1)

-- ---- the first word
module _ (h : Header) (b : List ℕ) where
  pub request_absent : word_at b 0 ≡ None → Err Malformed ≡ request_in h (words_of b)
  request_absent e = rw (words_of_none b e)

  pub request_word : (w seq : ℕ) → word_at b 0 ≡ Some w → seq ≡ csd_of h → Ok (RetransmitRequest record { seq = seq; count = w / 65536 }) ≡ request_in h (words_of b)
  request_word w seq e s = rw (words_of_first b w e, s)

  pub error_absent : word_at b 0 ≡ None → Err Malformed ≡ error_in h (words_of b)
  error_absent e = rw (words_of_none b e)

  pub error_word : (w : ℕ) → word_at b 0 ≡ Some w → Ok (RetransmitError record { reason = h.csd1; seq = w / 65536 }) ≡ error_in h (words_of b)
  error_word w e = rw (words_of_first b w e)

-- ---- the code
module _ (h : Header) (ws : List ℕ) where
  pub parsed_data : (seq : ℕ) → seq ≡ csd_of h → h.code ≡ 0xFF → Ok (UmpData record { seq = seq }) ≡ parsed_of h ws
  unfolding parsed_of
  parsed_data seq e c = rw (eq-eqb _ _ c, e)

  module _ (n : h.code ≡ 0xFF → ⊥) where
    pub parsed_request : h.code ≡ 0x80 → request_in h ws ≡ parsed_of h ws
    unfolding parsed_of
    parsed_request c = rw (ne_eqb _ _ n, eq-eqb _ _ c)

    module _ (m : h.code ≡ 0x80 → ⊥) where
      pub parsed_error : h.code ≡ 0x81 → error_in h ws ≡ parsed_of h ws
      unfolding parsed_of
      parsed_error c = rw (ne_eqb _ _ n, ne_eqb _ _ m, eq-eqb _ _ c)

      pub parsed_raw : (h.code ≡ 0x81 → ⊥) → Ok (Raw h) ≡ parsed_of h ws
      unfolding parsed_of
      parsed_raw c = rw (ne_eqb _ _ n, ne_eqb _ _ m, ne_eqb _ _ c)
