-- What the functions of this crate compute, each as a definition. The promises of the public functions are in Kept and Whole.
use Rattle.std.specs.Prelude.{ℕ, ◌+◌, ◌-◌, ◌*◌, ◌/◌, ◌%◌, Bool, true, false, cond, not, ◌&&◌, ◌||◌, List, Some, None, Option, ◌==◌, nat_lt, slice_index, slice_set}
use Rattle.std.specs.Option.{option_or}
use Rattle.touches.specs.declared.Who.{Who}
use Rattle.touches.specs.declared.Found.{Found}
use Rattle.touches.specs.declared.Held.{Held}
use Rattle.touches.specs.declared.Readers.{Readers}
use Rattle.touches.specs.declared.Readers.TheVariants.{Nobody, One, Two}

-- two touches of one cell that nothing parts
abbrev pub apart_of : Who → Who → Bool
apart_of a b = not (a.group == b.group) || (a.phase == b.phase && not (a.lane == b.lane))

abbrev pub named : Who → Bool → Option Found
named a w = Some (record { who = a; wrote = w })

abbrev pub raced_of : Who → Who → Bool → Option Found
raced_of a t w = cond (apart_of a t) (named a w) None

abbrev pub reader_of : Readers → Who → Option Found
reader_of Nobody t = None
reader_of (One a) t = raced_of a t false
reader_of (Two a b) t = option_or (raced_of a t false) (raced_of b t false)

abbrev pub writer_of : Option Who → Who → Option Found
writer_of None t = None
writer_of (Some a) t = raced_of a t true

abbrev pub look_of : Held → Who → Bool → Option Found
look_of k t w = option_or (writer_of k.writer t) (cond w (reader_of k.readers t) None)

abbrev pub joined_of : Readers → Who → Readers
joined_of Nobody t = One t
joined_of (One a) t = cond (not (a.group == t.group)) (Two a t) (cond (nat_lt a.phase t.phase) (One t) (cond (a.lane == t.lane) (One a) (Two a t)))
joined_of (Two a b) t =
    cond (not (a.group == b.group)) (Two a b) (cond (not (a.group == t.group)) (Two a t) (cond (nat_lt a.phase t.phase) (One t) (Two a b)))

abbrev pub keep_of : Held → Who → Bool → Held
keep_of k t w = cond w (record { writer = Some t; readers = k.readers }) (record { writer = k.writer; readers = joined_of k.readers t })

-- words: a touch is its phase, and one more than its line, lane and group in one number; none is 0
unfoldable pub packed_of : Who → ℕ
packed_of a = (1 + (a.line * 1024 + a.lane) * 1024) + a.group

unfoldable pub unpacked_of : ℕ → ℕ → Option Who
unpacked_of p w =
    cond (w == 0) None (Some (record { group = (w - 1) % 1024; lane = ((w - 1) / 1024) % 1024; phase = p; line = ((w - 1) / 1048576) % 4294967296 }))

abbrev pub phase_word : Option Who → ℕ
phase_word None = 0
phase_word (Some a) = a.phase

abbrev pub name_word : Option Who → ℕ
name_word None = 0
name_word (Some a) = packed_of a

-- entry j of the slice: words 2 j and 2 j + 1
unfoldable pub entry_of : List ℕ → ℕ → Option Who
entry_of ks j = unpacked_of (slice_index ks (2 * j)) (slice_index ks (2 * j + 1))

unfoldable pub entry_put : List ℕ → ℕ → Option Who → List ℕ
entry_put ks j o = slice_set (slice_set ks (2 * j) (phase_word o)) (2 * j + 1) (name_word o)

abbrev pub first_of : Readers → Option Who
first_of Nobody = None
first_of (One a) = Some a
first_of (Two a b) = Some a

abbrev pub second_of : Readers → Option Who
second_of Nobody = None
second_of (One a) = None
second_of (Two a b) = Some b

abbrev pub readers_by : Option Who → Option Who → Readers
readers_by None b = Nobody
readers_by (Some a) None = One a
readers_by (Some a) (Some b) = Two a b

-- cell i of the slice: the last writer at entry 3 i, readers at the next two
unfoldable pub held_of : List ℕ → ℕ → Held
held_of ks i = record { writer = entry_of ks (3 * i); readers = readers_by (entry_of ks (3 * i + 1)) (entry_of ks (3 * i + 2)) }

unfoldable pub readers_put : List ℕ → ℕ → Readers → List ℕ
readers_put ks i r = entry_put (entry_put ks (3 * i + 1) (first_of r)) (3 * i + 2) (second_of r)

unfoldable pub held_put : List ℕ → ℕ → Held → Who → Bool → List ℕ
held_put ks i k t w = cond w (entry_put ks (3 * i) (Some t)) (readers_put ks i (joined_of k.readers t))
