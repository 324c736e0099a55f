-- From what the machine's own row of turns shows to what users read; and how a machine that was loaded sets out.
use Rattle.std.proofs.Common.{◌≡◌, ℕ, ◌≤◌, List, [], sym, refl, ◌∙◌, subst, not-suc-le-zero, arith}
use Rattle.lanes.specs.Syntax.{Program, Body, end, put, read_shared, write_shared, read_all, write_all, barrier, when, while}
use Rattle.lanes.specs.Grid.{Turn, turns, marked, steps, begin}
use Rattle.lanes.specs.Race.{Races}
use Rattle.lanes.specs.Told.{Told, cells, Shows, Right, NoneWrong}
use Rattle.lanes.proofs.Orders.{any-order-from}
use Rattle.lanes.proofs.Verdict.{never_accused-from}
use Rattle.lanes.proofs.Wrong.{begin-right}
use Rattle.code.specs.Lines.{left_at, lines_of}
use Rattle.code.proofs.Left.{left-zero}
use Rattle.store.specs.declared.Sizes.{Sizes}
use Rattle.store.specs.Lent.{line_at, grid_of}
use Rattle.formats.specs.Field.{cells_read}
use Rattle.machine.specs.Verdict.{barriers, highest, StandsAt}
use Rattle.calls.specs.Load.{Loads}
use Rattle.calls.specs.Judge.{Leaves, Judged}

leaves : (granted : ℕ) (p : Program) (groups n : ℕ) (field : List ℕ) (told : Told) (ts : List Turn) → 1 ≤ n → Shows granted n (begin p groups n field) ts told →
    (cs : List ℕ) → told ≡ cells cs → (us : List Turn) → Leaves n (begin p groups n field) cs us
unfolding Shows
leaves granted p groups n field told ts some s cs e us =
    let shown : Shows granted n (begin p groups n field) ts (cells cs) = subst (λ x. Shows granted n (begin p groups n field) ts x) e s in
    let same = any-order-from p groups n field ts us some shown.0 shown.2 in
    record { no_race = same.no_race; rest = same.rest; goes_on = same.goes_on; field = λ h. same.field h ∙ shown.4 }

pub judged : (granted : ℕ) (p : Program) (groups n : ℕ) (field : List ℕ) (told : Told) (ts : List Turn) → 1 ≤ n → Shows granted n (begin p groups n field) ts told → Judged granted p groups n field told
unfolding Right
judged granted p groups n field told ts some s = record {
  right = (ts, s);
  every_order = leaves granted p groups n field told ts some s;
  never_accused = λ cs r. (never_accused-from granted p groups n field cs r.0 ts some r.1).only_field told s;
}

barriers-few : (b : Body) → barriers b ≤ lines_of b
unfolding barriers lines_of
barriers-few end = omega arith
barriers-few (put k e b) = omega arith
barriers-few (read_shared k e b) = omega arith
barriers-few (write_shared e f b) = omega arith
barriers-few (read_all k e b) = omega arith
barriers-few (write_all e f b) = omega arith
barriers-few (barrier b) = let r = barriers-few b in omega arith
barriers-few (when e c d b) = omega arith
barriers-few (while e c b) = omega arith

no-marks : Races [] → ⊥
unfolding Races
no-marks r = not-suc-le-zero r.5

-- before the first turn
pub sets-out : (ns : List (List ℕ)) (p : Program) (z : Sizes) (text bytes steps ls cs ks : List ℕ) (lines : ℕ) → 1 ≤ z.lanes → Loads ns p z text bytes steps ls cs ks lines →
    StandsAt z (left_at p.body) lines (grid_of z (left_at p.body) ls cs) [] ls cs ks 0
unfolding turns marked steps NoneWrong highest
sets-out ns p z text bytes steps ls cs ks lines some l = record {
  sofar = record {
    grid = refl;
    kept = l.kept;
    no_race = no-marks;
    none_wrong = λ g k. subst (λ d. NoneWrong d) (sym l.begins) (λ g k. begin-right p z.groups z.lanes (cells_read bytes z.field) g k) g k;
  };
  has_steps = refl;
  lined = l.lined;
  phases = λ g h.
      let q = l.phases g h in
      let b : barriers (left_at p.body (line_at z ls g 0)) ≤ lines_of p.body = rw (l.first_line g 0 h some, left-zero p.body) (barriers-few p.body) in
      omega (arith, l.lines_are);
}
