-- The record of a stream that is laid down: 02, request 5. `cipher` to `held` are its layout, field by field in 02's order; by them it is written (`laid`) and
-- read (`spelt`).
use Rattle.std.specs.Prelude.{List, ◌++◌, ℕ, ◌+◌, take, drop}
use Rattle.stream_layout.specs.Number.{bytes_in, number_of}
use Rattle.stream_layout.specs.declared.Fields.{Fields}

-- how many bytes the count takes
abbrev pub count_width : ℕ
count_width = 4

-- ---- the layout
-- where a field begins, and how many bytes it takes
pub record Place : Type 0 where
  pub begins : ℕ
  pub width : ℕ

abbrev pub behind : Place → ℕ → Place
behind p w = record { begins = p.begins + p.width; width = w }

abbrev pub cipher : Place
cipher = record { begins = 0; width = 1 }

abbrev pub key_length : Place
key_length = behind cipher 1

abbrev pub direction : Place
direction = behind key_length 1

abbrev pub closed : Place
closed = behind direction 1

abbrev pub count : Place
count = behind closed count_width

abbrev pub chain : Place
chain = behind count 16

abbrev pub held : Place
held = behind chain 16

abbrev pub record_length : ℕ
record_length = held.begins + held.width

-- ---- written and read by it
abbrev pub numbers : Fields → List ℕ
numbers f =
    bytes_in cipher.width f.cipher
    ++ bytes_in key_length.width f.key_length
    ++ bytes_in direction.width f.direction
    ++ bytes_in closed.width f.closed
    ++ bytes_in count.width f.count

unfoldable pub laid : Fields → List ℕ
laid f = numbers f ++ f.chain ++ f.held

-- the bytes of a field
abbrev pub at : Place → List ℕ → List ℕ
at p r = take p.width (drop p.begins r)

unfoldable pub spelt : List ℕ → Fields
spelt r = record {
  cipher = number_of (at cipher r);
  key_length = number_of (at key_length r);
  direction = number_of (at direction r);
  closed = number_of (at closed r);
  count = number_of (at count r);
  chain = at chain r;
  held = at held r;
}
