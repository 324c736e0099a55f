-- A field in bytes: groups and lanes (two each), steps granted (eight), how many cells (four), and each cell (four).
use Rattle.std.specs.Prelude.{◌≡◌, ℕ, ◌+◌, ◌*◌, ◌<◌, ◌≤◌, Bool, true, false, cond, ◌&&◌, ◌||◌, List, ◌++◌, map, length, Ok, Err, Result, ◌==◌, nat_le, nat_lt, slice_index}
use Rattle.std.specs.List.{range_with_len, flat_map}
use Rattle.formats.specs.Bytes.{number_at, low_bytes}
use Rattle.formats.specs.declared.refusal.Refusal.{Refusal}
use Rattle.formats.specs.declared.refusal.Refusal.TheVariants.{Field}
use Rattle.formats.specs.declared.field.Header.{Header}

-- The bytes of the cells, one after the other.
unfoldable pub cells_bytes : List ℕ → List ℕ
cells_bytes cells = flat_map (low_bytes 4) cells

-- The bytes of a field.
unfoldable pub field_bytes : ℕ → ℕ → ℕ → List ℕ → List ℕ
field_bytes groups lanes steps cells =
    low_bytes 2 groups ++ (low_bytes 2 lanes ++ (low_bytes 8 steps ++ (low_bytes 4 (length cells) ++ cells_bytes cells)))

-- 1 to 1,024 groups and lanes, up to 2^40 steps, up to 2^24 cells.
pub record InRange (groups lanes steps cells : ℕ) : Type 0 where
  pub some_group : 1 ≤ groups
  pub groups_few : groups ≤ 1024
  pub some_lane : 1 ≤ lanes
  pub lanes_few : lanes ≤ 1024
  pub steps_few : steps ≤ 1099511627776
  pub cells_few : cells ≤ 16777216

-- One number of k bytes at a place: refused are bytes that end before it does, at their length, and a number out of range, at its first byte.
abbrev pub in_range_at : (size at k n low high : ℕ) → Result ℕ Refusal
in_range_at size at k n low high = cond (nat_lt size (at + k)) (Err (Field size)) (cond (nat_lt n low || nat_lt high n) (Err (Field at)) (Ok n))

-- What is read of `size` bytes with these numbers in front: the numbers, or the first byte in fault. A number is looked at once all its
-- bytes are there. Refused is a number out of range, at its first byte; bytes that are cut short, at their length; bytes that go on, at the
-- first one too many.
abbrev pub read_with : (size groups lanes steps cells : ℕ) → Result Header Refusal
read_with size groups lanes steps cells =
    cond (nat_lt size 2) (Err (Field size))
    (cond (nat_lt groups 1 || nat_lt 1024 groups) (Err (Field 0))
    (cond (nat_lt size 4) (Err (Field size))
    (cond (nat_lt lanes 1 || nat_lt 1024 lanes) (Err (Field 2))
    (cond (nat_lt size 12) (Err (Field size))
    (cond (nat_lt 1099511627776 steps) (Err (Field 4))
    (cond (nat_lt size 16) (Err (Field size))
    (cond (nat_lt 16777216 cells) (Err (Field 12))
    (cond (nat_lt size (16 + 4 * cells)) (Err (Field size))
    (cond (nat_lt (16 + 4 * cells) size) (Err (Field (16 + 4 * cells)))
    (Ok (record { groups = groups; lanes = lanes; steps = steps; cells = cells })))))))))))

-- What is read of a field's bytes.
unfoldable pub read_as : List ℕ → Result Header Refusal
read_as bs = read_with (length bs) (number_at 2 bs 0) (number_at 2 bs 2) (number_at 8 bs 4) (number_at 4 bs 12)

-- The cell k that stands in a field's bytes, and the first n cells.
unfoldable pub cell_at : List ℕ → ℕ → ℕ
cell_at bs k = number_at 4 bs (16 + 4 * k)

unfoldable pub cells_read : List ℕ → ℕ → List ℕ
cells_read bs n = map (cell_at bs) (range_with_len 0 n)

-- What is known of bytes that are read: the field is in range, and they are the bytes of that field.
pub record IsField (bs : List ℕ) (h : Header) : Type 0 where
  pub in_range : InRange h.groups h.lanes h.steps h.cells
  pub size : length bs ≡ 16 + 4 * h.cells
  pub bytes : bs ≡ field_bytes h.groups h.lanes h.steps (cells_read bs h.cells)

-- The bytes of a field in range are read as that field.
unfoldable pub ReadsBack : Type 0
ReadsBack =
    (groups lanes steps : ℕ) (cells : List ℕ)
    → InRange groups lanes steps (length cells)
    → ((k : ℕ) → slice_index cells k < 4294967296)
    → (read_as (field_bytes groups lanes steps cells) ≡ Ok (record { groups = groups; lanes = lanes; steps = steps; cells = length cells }))
    × (cells_read (field_bytes groups lanes steps cells) (length cells) ≡ cells)

-- The faults of `size` bytes, each at its place: a number that is there is out of range, the bytes end before the numbers or before the cells
-- that they promise, or they go on behind these.
abbrev pub groups_fault : (size groups at : ℕ) → Bool
groups_fault size groups at = nat_le 2 size && ((nat_lt groups 1 || nat_lt 1024 groups) && at == 0)

abbrev pub lanes_fault : (size lanes at : ℕ) → Bool
lanes_fault size lanes at = nat_le 4 size && ((nat_lt lanes 1 || nat_lt 1024 lanes) && at == 2)

abbrev pub steps_fault : (size steps at : ℕ) → Bool
steps_fault size steps at = nat_le 12 size && (nat_lt 1099511627776 steps && at == 4)

abbrev pub count_fault : (size cells at : ℕ) → Bool
count_fault size cells at = nat_le 16 size && (nat_lt 16777216 cells && at == 12)

abbrev pub front_cut : (size at : ℕ) → Bool
front_cut size at = nat_lt size 16 && at == size

abbrev pub cells_cut : (size cells at : ℕ) → Bool
cells_cut size cells at = nat_le 16 size && (nat_lt size (16 + 4 * cells) && at == size)

abbrev pub going_on : (size cells at : ℕ) → Bool
going_on size cells at = nat_le 16 size && (nat_lt (16 + 4 * cells) size && at == 16 + 4 * cells)

abbrev pub fault_at : (size groups lanes steps cells at : ℕ) → Bool
fault_at size groups lanes steps cells at =
    groups_fault size groups at
    || (lanes_fault size lanes at
    || (steps_fault size steps at || (count_fault size cells at || (front_cut size at || (cells_cut size cells at || going_on size cells at)))))

-- What is refused is refused at the lowest place with a fault, and with no fault nothing is.
pub record FirstFault : Type 0 where
  pub there : (size groups lanes steps cells at : ℕ) → read_with size groups lanes steps cells ≡ Err (Field at) → fault_at size groups lanes steps cells at ≡ true
  pub none_before :
      (size groups lanes steps cells at k : ℕ) → read_with size groups lanes steps cells ≡ Err (Field at) → k < at → fault_at size groups lanes steps cells k ≡ false
  pub none_in_a_field :
      (size groups lanes steps cells k : ℕ) (h : Header) → read_with size groups lanes steps cells ≡ Ok h → fault_at size groups lanes steps cells k ≡ false
