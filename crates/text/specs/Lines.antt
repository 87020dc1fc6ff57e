-- What the contracts of a line's fields cite.
use Rattle.std.specs.Prelude.{ℕ, ◌+◌, List, length, Option, None, Some}
use Rattle.std.specs.Borrow.{Bor}
use Rattle.text.specs.declared.fields.Fields.{Fields}

-- What is left of a line: its bytes and its end; nothing after that.
unfoldable pub left_of : Option (Bor (List ℕ)) → ℕ
left_of None = 0
left_of (Some rest) = 1 + length rest.now

abbrev pub left : Fields → ℕ
left f = left_of f.rest
