-- 02, 10/14: each record gives three class counts and the sum of loss counts, four bytes each, big-endian.
use Rattle.std.specs.Prelude.{ℕ, ◌+◌, ◌-◌, ◌/◌, ◌%◌, cond, List, [], ◌∷◌, eqb}
use Rattle.sheet_blocks.specs.Bytes.{word_bytes}
use Rattle.loss_sheet.specs.declared.figures.Figures.{Figures}

-- how many of the words have the class
unfoldable pub classes : ℕ → List ℕ → ℕ
classes c [] = 0
classes c (w ∷ ws) = cond (eqb (w / 65536) c) 1 0 + classes c ws

-- the sum of their loss counts
unfoldable pub losses : List ℕ → ℕ
losses [] = 0
losses (w ∷ ws) = w % 65536 + losses ws

-- the figures of some words, worked afresh: New, Late, Duplicate, losses
unfoldable pub figures : List ℕ → Figures
figures ws = record { new = classes 0 ws; late = classes 1 ws; duplicate = classes 2 ws; lost = losses ws }

unfoldable pub figure_bytes : Figures → List ℕ
figure_bytes f = word_bytes f.new (word_bytes f.late (word_bytes f.duplicate (word_bytes f.lost [])))

-- ---- one word more, and one less

abbrev pub is_of : ℕ → ℕ → ℕ
is_of c w = cond (eqb (w / 65536) c) 1 0

unfoldable pub plus : Figures → ℕ → Figures
plus f w =
    record {
      new = f.new + is_of 0 w;
      late = f.late + is_of 1 w;
      duplicate = f.duplicate + is_of 2 w;
      lost = f.lost + w % 65536;
    }

unfoldable pub minus : Figures → ℕ → Figures
minus f w =
    record {
      new = f.new - is_of 0 w;
      late = f.late - is_of 1 w;
      duplicate = f.duplicate - is_of 2 w;
      lost = f.lost - w % 65536;
    }
