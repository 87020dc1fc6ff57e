-- Steps worked out, so that the definition can be held to 02's words.
use Rattle.std.specs.Prelude.{◌≡◌, refl, true, false, [], ◌∷◌}
use Rattle.uplink.specs.Grants.{sum, firsts, granted, left_of, round_from, grants_of, allowed}

-- what the first division leaves goes to the turn's
turn_0 : grants_of 100 0 (10 ∷ 50 ∷ 60 ∷ []) ≡ 10 ∷ 50 ∷ 40 ∷ []
unfolding grants_of round_from granted left_of firsts sum
turn_0 = refl

turn_2 : grants_of 100 2 (10 ∷ 50 ∷ 60 ∷ []) ≡ 10 ∷ 33 ∷ 57 ∷ []
unfolding grants_of round_from granted left_of firsts sum
turn_2 = refl

-- round the end: the turn's division, then the first
round_the_end : grants_of 100 2 (90 ∷ 10 ∷ 34 ∷ []) ≡ 56 ∷ 10 ∷ 34 ∷ []
unfolding grants_of round_from granted left_of firsts sum
round_the_end = refl

-- fewer words than divisions
few_words : grants_of 7 5 (9 ∷ 9 ∷ 9 ∷ 9 ∷ 9 ∷ 9 ∷ 9 ∷ 9 ∷ []) ≡ 0 ∷ 0 ∷ 0 ∷ 0 ∷ 0 ∷ 7 ∷ 0 ∷ 0 ∷ []
unfolding grants_of round_from granted left_of firsts sum
few_words = refl

-- the largest figures: seven shares of 8191, and what is left
all_wanted : grants_of 65535 7 (65535 ∷ 65535 ∷ 65535 ∷ 65535 ∷ 65535 ∷ 65535 ∷ 65535 ∷ 65535 ∷ []) ≡ 8191 ∷ 8191 ∷ 8191 ∷ 8191 ∷ 8191 ∷ 8191 ∷ 8191 ∷ 8198 ∷ []
unfolding grants_of round_from granted left_of firsts sum
all_wanted = refl

-- one word is lacking: to the division before the turn
one_lacking : grants_of 65535 3 (8192 ∷ 8192 ∷ 8192 ∷ 8192 ∷ 8192 ∷ 8192 ∷ 8192 ∷ 8192 ∷ []) ≡ 8192 ∷ 8192 ∷ 8191 ∷ 8192 ∷ 8192 ∷ 8192 ∷ 8192 ∷ 8192 ∷ []
unfolding grants_of round_from granted left_of firsts sum
one_lacking = refl

-- two divisions have turns 0 and 1
last_turn : allowed 2 1 ≡ true
unfolding allowed
last_turn = refl

past_the_last : allowed 2 2 ≡ false
unfolding allowed
past_the_last = refl
