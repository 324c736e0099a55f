-- Laws of what is left at an entry.
use Rattle.std.proofs.Common.{◌≡◌, ℕ, suc, ◌+◌, ◌-◌, ◌<◌, ◌≤◌, true, false, refl, ap, ◌∙◌, inl, inr, arith}
use Rattle.std.proofs.lemmas.Bool.{le-leb, lt-leb, lt-ltb, le-ltb, cases_Bool}
use Rattle.lanes.specs.Syntax.{Body, Expr, followed, ended, end, put, read_shared, write_shared, read_all, write_all, barrier, when, while}
use Rattle.code.specs.Lines.{lines_of, else_lines_spec, left_at}

pub followed-assoc : (a b c : Body) → followed (followed a b) c ≡ followed a (followed b c)
unfolding followed
followed-assoc end b c = refl
followed-assoc (put k e a) b c = ap (put k e) (followed-assoc a b c)
followed-assoc (read_shared k e a) b c = ap (read_shared k e) (followed-assoc a b c)
followed-assoc (write_shared e f a) b c = ap (write_shared e f) (followed-assoc a b c)
followed-assoc (read_all k e a) b c = ap (read_all k e) (followed-assoc a b c)
followed-assoc (write_all e f a) b c = ap (write_all e f) (followed-assoc a b c)
followed-assoc (barrier a) b c = ap barrier (followed-assoc a b c)
followed-assoc (when e x y a) b c = ap (when e x y) (followed-assoc a b c)
followed-assoc (while e x a) b c = ap (while e x) (followed-assoc a b c)

pub followed-end : (a : Body) → followed a end ≡ a
unfolding followed
followed-end end = refl
followed-end (put k e a) = ap (put k e) (followed-end a)
followed-end (read_shared k e a) = ap (read_shared k e) (followed-end a)
followed-end (write_shared e f a) = ap (write_shared e f) (followed-end a)
followed-end (read_all k e a) = ap (read_all k e) (followed-end a)
followed-end (write_all e f a) = ap (write_all e f) (followed-end a)
followed-end (barrier a) = ap barrier (followed-end a)
followed-end (when e x y a) = ap (when e x y) (followed-end a)
followed-end (while e x a) = ap (while e x) (followed-end a)

pub end-followed : (a : Body) → followed end a ≡ a
unfolding followed
end-followed a = refl

pub left-zero : (b : Body) → left_at b 0 ≡ b
unfolding left_at
left-zero end = refl
left-zero (put k e a) = refl
left-zero (read_shared k e a) = refl
left-zero (write_shared e f a) = refl
left-zero (read_all k e a) = refl
left-zero (write_all e f a) = refl
left-zero (barrier a) = refl
left-zero (when e x y a) = refl
left-zero (while e x a) = refl

pub else-some : (d : Body) → ended d ≡ false → else_lines_spec d ≡ suc (lines_of d)
unfolding else_lines_spec
else-some d h = rw h

pub else-none : (d : Body) → ended d ≡ true → else_lines_spec d ≡ 0
unfolding else_lines_spec
else-none d h = rw h

pub when-lines : (e : Expr) (c d b : Body) → lines_of (when e c d b) ≡ suc (suc (lines_of c) + (else_lines_spec d + lines_of b))
unfolding lines_of else_lines_spec
when-lines e c d b = refl

pub when-first : (e : Expr) (c d b : Body) (i : ℕ) → i ≤ lines_of c → left_at (when e c d b) (suc i) ≡ followed (left_at c i) b
unfolding left_at
when-first e c d b i h = rw (le-leb i (lines_of c) h)

pub when-second : (e : Expr) (c d b : Body) (i j : ℕ) → i ≡ suc (lines_of c) + j → j < else_lines_spec d → left_at (when e c d b) (suc i) ≡ followed (left_at d j) b
unfolding left_at
when-second e c d b i j q h =
    let p : lines_of c < i = omega arith in
    let m : i - suc (lines_of c) ≡ j = omega arith in
    rw (lt-leb i (lines_of c) p, m, lt-ltb j (else_lines_spec d) h)

pub when-behind : (e : Expr) (c d b : Body) (i j : ℕ) → i ≡ suc (lines_of c) + (else_lines_spec d + j) → left_at (when e c d b) (suc i) ≡ left_at b j
unfolding left_at
when-behind e c d b i j q =
    let p : lines_of c < i = omega arith in
    let m : i - suc (lines_of c) ≡ else_lines_spec d + j = omega arith in
    let r : else_lines_spec d ≤ else_lines_spec d + j = omega arith in
    let n : (else_lines_spec d + j) - else_lines_spec d ≡ j = omega arith in
    rw (lt-leb i (lines_of c) p, m, le-ltb (else_lines_spec d + j) (else_lines_spec d) r, n)

pub while-first : (e : Expr) (c b : Body) (i : ℕ) → i ≤ lines_of c → left_at (while e c b) (suc i) ≡ followed (left_at c i) (while e c b)
unfolding left_at
while-first e c b i h = rw (le-leb i (lines_of c) h)

pub while-behind : (e : Expr) (c b : Body) (i j : ℕ) → i ≡ suc (lines_of c) + j → left_at (while e c b) (suc i) ≡ left_at b j
unfolding left_at
while-behind e c b i j q =
    let p : lines_of c < i = omega arith in
    let m : i - suc (lines_of c) ≡ j = omega arith in
    rw (lt-leb i (lines_of c) p, m)

-- Behind the last entry nothing is left.
pub left-last : (b : Body) → left_at b (lines_of b) ≡ end
unfolding left_at lines_of else_lines_spec
left-last end = refl
left-last (put k e a) = left-last a
left-last (read_shared k e a) = left-last a
left-last (write_shared e f a) = left-last a
left-last (read_all k e a) = left-last a
left-last (write_all e f a) = left-last a
left-last (barrier a) = left-last a
left-last (when e c d a) = when-behind e c d a _ (lines_of a) refl ∙ left-last a
left-last (while e c a) = while-behind e c a _ (lines_of a) refl ∙ left-last a

pub ended_is : (d : Body) → ended d ≡ true → d ≡ end
unfolding ended
ended_is d h = grind arith

pub no_lines : (d : Body) → d ≡ end → lines_of d ≡ 0
unfolding lines_of
no_lines d q = ap lines_of q

pub else-room : (d : Body) → lines_of d ≤ else_lines_spec d
else-room d = elim (cases_Bool (ended d)) [ inl q ↦ omega (arith, no_lines d (ended_is d q)) | inr q ↦ omega (arith, else-some d q) ]

-- A body without entries is empty.
pub lines_none : (d : Body) → lines_of d ≡ 0 → ended d ≡ true
unfolding lines_of ended
lines_none d h = grind arith

pub no_second : (d : Body) → d ≡ end → else_lines_spec d ≡ 0
unfolding ended
no_second d q = else-none d (ap ended q)

pub else-most : (d : Body) → else_lines_spec d ≤ suc (lines_of d)
else-most d = elim (cases_Bool (ended d)) [ inl q ↦ omega (arith, else-none d q) | inr q ↦ omega (arith, else-some d q) ]
