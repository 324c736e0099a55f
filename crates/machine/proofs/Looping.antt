-- From one choice to the next.
use Rattle.std.proofs.Common.{◌≡◌, ℕ, ◌<◌, ◌≤◌, true, List, [], length, sym, subst, inl, inr, arith}
use Rattle.std.proofs.lemmas.Bool.{cases_lt, both_ways}
use Rattle.lanes.specs.Syntax.{Body}
use Rattle.lanes.specs.Grid.{Grid, Turn, release, can, turns}
use Rattle.store.specs.declared.Sizes.{Sizes}
use Rattle.store.specs.Lent.{Lent, grid_of}
use Rattle.machine.specs.declared.schedule.Choice.{Choice}
use Rattle.machine.specs.declared.schedule.Choice.TheVariants.{Row, GoOn}
use Rattle.machine.specs.Line.{Loaded}
use Rattle.machine.specs.Schedule.{CanDo, turns_of}
use Rattle.machine.specs.Verdict.{StandsAt, WentTo, MayGo, SetsOut, Comes}
use Rattle.machine.proofs.Stances.{cannot-outside}
use Rattle.machine.proofs.Bounds.{highest-few}
use Rattle.machine.proofs.Choosing.{runs-from}

pub lent_still : (z : Sizes) (ls cs ls' cs' : List ℕ) → length ls' ≡ length ls → length cs' ≡ length cs → Lent z ls cs → Lent z ls' cs'
lent_still z ls cs ls' cs' p q k = let a = k.lanes_fit in let b = k.cells_fit in record { sized = k.sized; lanes_fit = omega arith; cells_fit = omega arith }

go-in : (z : Sizes) (at : ℕ → Body) (ls cs : List ℕ) (g : ℕ) → can z.lanes (grid_of z at ls cs) (release g) ≡ true → g < z.groups
go-in z at ls cs g e = elim (cases_lt g z.groups) [ inl h ↦ h | inr h ↦ absurd (both_ways _ (cannot-outside z at ls cs g h) e) ]

module _ (ns : List (List ℕ)) (text steps : List ℕ) (lines : ℕ) (z : Sizes) (at : ℕ → Body) (loaded : Loaded ns text steps lines z at) (d : Grid) (ts : List Turn) (ls cs ks : List ℕ) (done granted : ℕ)
    (st : StandsAt z at lines d ts ls cs ks done) (few : done ≤ granted) (most : granted ≤ 1099511627776) (short : lines ≤ 65536) where
  pub may-go : (choice : Choice) → CanDo z at ls cs choice → MayGo z steps lines ls choice
  may-go (Row g start mask) c = tt
  may-go (GoOn g) c =
      let hg = go-in z at ls cs g c in
      (hg, (let p = st.phases g hg in let q = highest-few done lines (omega arith) short in omega arith), (at, runs-from ns text steps lines z at ls loaded st.lined))

module _ {S : Type 0} (knows : S → ℕ → Grid → Type 0) where
  pub sets-comes : (s : S) (ns : List (List ℕ)) (text steps : List ℕ) (lines : ℕ) (z : Sizes) (at : ℕ → Body) (ls cs ks : List ℕ) → SetsOut knows s ns text steps lines z at ls cs ks →
      Comes knows s lines z at (grid_of z at ls cs) ls cs ks 0
  sets-comes s ns text steps lines z at ls cs ks k = record { ts = []; stands = k.stands; knows_it = k.knows_it }

  pub comes-more : (s : S) (lines : ℕ) (z : Sizes) (at : ℕ → Body) (d : Grid) (ls cs ls' cs' ks' : List ℕ) (granted done k : ℕ) (choice : Choice) →
      WentTo z at lines d ls cs ls' cs' ks' granted done k choice → knows s z.lanes (turns z.lanes (grid_of z at ls cs) (turns_of choice)) → Comes knows s lines z at d ls' cs' ks' k
  comes-more s lines z at d ls cs ls' cs' ks' granted done k choice went kn =
      record { ts = went.us; stands = went.stands; knows_it = subst (λ (e : Grid). knows s z.lanes e) (sym went.grid) kn }
