-- Every touch is of a cell that is there, and the lengths of memory stay.
use Rattle.std.proofs.Common.{◌≡◌, ℕ, suc, ◌<◌, List, [], ◌∷◌, length, sym, refl, ◌∙◌, subst, inl, inr, arith}
use Rattle.std.proofs.lemmas.Bool.{cases_Bool}
use Rattle.std.proofs.lemmas.Bool.Decides.{nat_tests}
use Rattle.lanes.specs.Step.{Lane, cells, Touch, Act, quiet, reads, writes, act, touched}
use Rattle.lanes.specs.Grid.{Grid, Mark, Turn, of, release, the_group, the_lane, the_act, can, did, marks, marks_at, turn, turns, marked}
use Rattle.lanes.specs.There.{TouchesThere}
use Rattle.lanes.proofs.Acts.{Alike, after-alike}
use Rattle.lanes.proofs.Turns.{turn-did, turn-idle, marked-did, marked-idle}
use Rattle.lanes.proofs.Crossing.{All}
use Rattle.lanes.proofs.Runs.{all_append, all-at}
use Rattle.lanes.proofs.Rising.{all_map}

-- the cell that an act touches is there, where L says how many cells a place has
act-reads : (n l g : ℕ) (L : ℕ → ℕ) (x y : Lane) (w c k : ℕ) → act n l g (L 0) (L (suc g)) x ≡ reads w c k y → c < L w
unfolding act
act-reads n l g L x y w c k e = grind (arith, nat_tests)

act-writes : (n l g : ℕ) (L : ℕ → ℕ) (x y : Lane) (w c v : ℕ) → act n l g (L 0) (L (suc g)) x ≡ writes w c v y → c < L w
unfolding act
act-writes n l g L x y w c v e = grind (arith, nat_tests)

abbrev In : (ℕ → ℕ) → Touch → Type 0
In L t = t.cell < L t.where_is

touched-in : (L : ℕ → ℕ) (a : Act) → ((w c k : ℕ) (y : Lane) → a ≡ reads w c k y → c < L w) → ((w c v : ℕ) (y : Lane) → a ≡ writes w c v y → c < L w) → All (In L) (touched a)
unfolding touched
touched-in L (quiet y) f h = tt
touched-in L (reads w c k y) f h = (f w c k y refl, tt)
touched-in L (writes w c v y) f h = (h w c v y refl, tt)

marks-in : (L : ℕ → ℕ) (g l p : ℕ) (ts : List Touch) → All (In L) ts → All (λ (a : Mark). In L a.touch) (marks g l p ts)
unfolding marks
marks-in L g l p [] s = tt
marks-in L g l p (t ∷ ts) s = (s.0, marks-in L g l p ts s.1)

-- the mark's cell is there
abbrev pub There : Grid → Mark → Type 0
There d a = a.touch.cell < length (cells d.memory a.touch.where_is)

pub at_there : (n : ℕ) (d : Grid) (t : Turn) → All (There d) (marks_at n d t)
unfolding marks_at the_act
at_there n d (of g l) =
    let L : ℕ → ℕ = λ w. length (cells d.memory w) in
    marks-in L g l (the_group d g).phase (touched (the_act n d g l))
    (touched-in L (the_act n d g l)
    (λ w c k y e. act-reads n l g L (the_lane d g l) y w c k e) (λ w c v y e. act-writes n l g L (the_lane d g l) y w c v e))
at_there n d (release g) = tt

-- the lengths stay
pub did-alike : (n : ℕ) (d : Grid) (t : Turn) (w : ℕ) → length (cells (did n d t).memory w) ≡ length (cells d.memory w)
unfolding did Alike
did-alike n d (of g l) w = after-alike (the_act n d g l) d.memory w
did-alike n d (release g) w = refl

pub turn-alike : (n : ℕ) (d : Grid) (t : Turn) (w : ℕ) → length (cells (turn n d t).memory w) ≡ length (cells d.memory w)
turn-alike n d t w = elim (cases_Bool (can n d t)) [ inl e ↦ rw (turn-did n d t e) (did-alike n d t w) | inr e ↦ rw (turn-idle n d t e) ]

pub turns-alike : (n : ℕ) (d : Grid) (ts : List Turn) (w : ℕ) → length (cells (turns n d ts).memory w) ≡ length (cells d.memory w)
unfolding turns
turns-alike n d [] w = refl
turns-alike n d (t ∷ ts) w = turns-alike n (turn n d t) ts w ∙ turn-alike n d t w

pub marked-there : (n : ℕ) (d : Grid) (ts : List Turn) → All (There d) (marked n d ts)
unfolding marked
marked-there n d [] = tt
marked-there n d (t ∷ ts) =
    elim (cases_Bool (can n d t)) [
      | inl e ↦
          subst (λ (ms : List Mark). All (There d) ms) (sym (marked-did n d t ts e))
          (all_append (There d) (marks_at n d t) (marked n (did n d t) ts) (at_there n d t)
          (all_map (There (did n d t)) (There d) (marked n (did n d t) ts) (λ a h. let q = did-alike n d t a.touch.where_is in omega arith) (marked-there n (did n d t) ts)))
      | inr e ↦ subst (λ (ms : List Mark). All (There d) ms) (sym (marked-idle n d t ts e)) (marked-there n d ts)
    ]

pub touches-there : TouchesThere
unfolding TouchesThere
touches-there n d ts = record { there = λ j a h e. all-at (There d) (marked n d ts) j a (marked-there n d ts) h e; same_lengths = turns-alike n d ts }
