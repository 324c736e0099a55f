use Rattle.std.proofs.Common.{rules, true, false, ◌≡◌, ◌+◌, ◌-◌, [], ◌∷◌, ◌++◌, length, Ok, sym, refl, ap, ◌∙◌, arith}
use Rattle.std.proofs.lemmas.List.{length_push}
use Rattle.std.proofs.lemmas.Result.{err_from_is_err_and}
use Rattle.grammar.specs.Walk.{word_part}
use Rattle.reader.specs.Heads.{counted, is_own_spec}
use Rattle.grammar.proofs.Atoms.{then-err, then_ok}
use Rattle.reader.proofs.Names.{own-none, own-some, names-step}
use Rattle.reader.proofs.Owns.{walk_start, walk-on, walk-words, names-on, names-end, name-sound}
use Rattle.reader.proofs.heads.own_line.Goals as goal

pub returns-then-ne : goal.returns-then-ne
returns-then-ne c =
    let h : is_own_spec c.key_here.result ≡ false = search rules in
    own-none c.args.text.now (rw c.key_here.ensures at h)

pub loop-at-init : goal.loop-at-init
loop-at-init c =
    let p : is_own_spec c.key_here.result ≡ true = search rules in
    let h = rw c.key_here.ensures at p in
    (omega arith, ([], refl, walk_start c.args.text.now h, own-some c.args.text.now h))

pub returns-in_err-at : goal.returns-in_err-at
returns-in_err-at c =
    let p = err_from_is_err_and c.from_residual.result c.from_residual.ensures.1 in
    let m = c.loop-at.invariant.0 in
    let v = c.loop-at.invariant.1 in
    rw (p.1, p.2) (ap counted (then-err _ _ _ c.in_err-at.ensures ∙ names-step c.args.text.now (66 - c.loop-at.many) v.0 c.loop-at.end (omega arith) ∙ v.3))

pub returns-in_err-end : goal.returns-in_err-end
returns-in_err-end c =
    let p = err_from_is_err_and c.from_residual-in_err-end.result c.from_residual-in_err-end.ensures.1 in
    let m = c.loop-at.invariant.0 in
    let v = c.loop-at.invariant.1 in
    rw (p.1, p.2) (ap counted (then-err _ _ _ (c.in_err-end.ensures v.0 _ v.1 (walk-words _ _ _ v.2) v.2.apart v.2.here) ∙ then_ok _ _ _ c.in_ok-at.ensures
    ∙ names-step c.args.text.now (66 - c.loop-at.many) v.0 c.loop-at.end (omega arith) ∙ v.3))

pub returns-then-byte-eq10 : goal.returns-then-byte-eq10
returns-then-byte-eq10 c =
    let m = c.loop-at.invariant.0 in
    let v = c.loop-at.invariant.1 in
    let q : length (v.0 ++ (word_part c.args.text.now c.in_ok-at.at ∷ [])) ≡ c.loop-at.many + 1 = omega (arith, length_push v.0 (word_part c.args.text.now c.in_ok-at.at), v.1) in
    ap (λ k. Ok (record { many = k; next = c.in_ok-end.end + 1 })) (sym q)
    ∙ ap counted (names-end c.args.text.now (66 - c.loop-at.many) v.0 c.loop-at.end c.in_ok-at.at c.in_ok-end.end (omega arith) c.in_ok-at.ensures (c.in_ok-end.ensures v.0 _ v.1 (walk-words _ _ _ v.2) v.2.apart v.2.here) (sym c.byte.ensures.is ∙ c.if-byte-eq10.true) ∙ v.3)

pub loop-at-preserved : goal.loop-at-preserved
loop-at-preserved c =
    let m = c.loop-at.invariant.0 in
    let v = c.loop-at.invariant.1 in
    let nm = (c.in_ok-end.ensures v.0 _ v.1 (walk-words _ _ _ v.2) v.2.apart v.2.here) in
    let x = name-sound v.0 c.args.text.now c.in_ok-at.at c.in_ok-end.end (sym nm) in (
      omega (arith, x.room, v.1),
      (
        v.0 ++ (word_part c.args.text.now c.in_ok-at.at ∷ []),
        omega (arith, length_push v.0 (word_part c.args.text.now c.in_ok-at.at), v.1),
        walk-on c.args.text.now v.0 c.loop-at.end c.in_ok-at.at c.in_ok-end.end v.2 (sym c.in_ok-at.ensures) (sym nm),
        names-on c.args.text.now c.loop-at.many v.0 c.loop-at.end c.in_ok-at.at c.in_ok-end.end m c.in_ok-at.ensures nm (λ e. c.if-byte-eq10.false (c.byte.ensures.is ∙ e)) ∙ v.3,
      ),
    )
