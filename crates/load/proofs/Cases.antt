-- Values of the seeds 0 and 1, what they ask to send, and rounds, computed from the definitions.
use Rattle.std.proofs.Common.{◌≡◌, [], ◌∷◌, refl}
use Rattle.load.specs.Load.{next, iterate, values_of, count_of, drawn, digits_in, digits_of}

of_seed_0 : values_of 4 0 ≡ 0x3C6EF35F ∷ 0x47502932 ∷ 0xD1CCF6E9 ∷ 0xAAF95334 ∷ []
unfolding values_of next
of_seed_0 = refl

of_seed_1 : values_of 4 1 ≡ 0x3C88596C ∷ 0x5E8885DB ∷ 0x8116017E ∷ 0xB4733AC5 ∷ []
unfolding values_of next
of_seed_1 = refl

sixteenth : drawn 16 0 ≡ 0x83C6B450
unfolding iterate next
sixteenth = refl

-- the top bit alone, and all four; the others are not looked at
idle : count_of 0x7FFFFFFF ≡ 0
unfolding count_of
idle = refl

one_word : count_of 0x80000000 ≡ 1
unfolding count_of
one_word = refl

eight_words : count_of 0xFFFFFFFF ≡ 8
unfolding count_of
eight_words = refl

-- no round for no draw; 16 for the largest count
no_round : digits_of 0 ≡ 0
unfolding digits_of digits_in
no_round = refl

all_rounds : digits_of 65535 ≡ 16
unfolding digits_of digits_in
all_rounds = refl
