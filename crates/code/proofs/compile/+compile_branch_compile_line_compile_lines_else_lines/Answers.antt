use Rattle.std.proofs.Common.{◌≡◌, suc, ◌-◌, ◌≤◌, true, false, Some, None, sym, refl, ap, ◌∙◌, arith, rules}
use Rattle.code.specs.declared.scan.Line.TheVariants.{Otherwise}
use Rattle.code.proofs.Inside.{kept-wider, kept-both, kept-none, wrote_kept}
use Rattle.code.proofs.Makes.{given_first, first_room, given_else, last_room, branch_part}
use Rattle.code.proofs.Heads.{some-other, none-other}
use Rattle.code.proofs.Parts.{branch-deep, part_none, given-rest, part-more, stops-done, goes-room, plain-part, branch-made, flat-rest, else-missing, given-second, second_none, second-some}
use Rattle.code.proofs.compile.+compile_branch_compile_line_compile_lines_else_lines.Goals as goal

pub compile_branch-returns-then-depth-eq0 : goal.compile_branch-returns-then-depth-eq0
compile_branch-returns-then-depth-eq0 t c = λ ns b z g br. omega (arith, branch-deep ns c.args.of.text.bytes.now c.args.expr c.args.looped b br, g.shallow, c.if-depth-eq0.true)

pub compile_branch-returns-in_err-first : goal.compile_branch-returns-in_err-first
compile_branch-returns-in_err-first t c =
    rw c.from_residual.ensures
    (λ ns b z g br.
    c.in_err-first.ensures ns _ _
    (given_first ns c.args.of.text.bytes.now g.names c.args.expr c.args.looped b z c.args.p c.after-inside.result (c.args.depth - 1) c.args.depth c.args.of.room g br c.after-inside.ensures
    (omega (arith, c.if-depth-eq0.false))))

pub compile_branch-returns-then-first-of : goal.compile_branch-returns-then-first-of
compile_branch-returns-then-first-of t c = λ ns b z g br.
    omega (
      arith,
      c.if-first-of.true,
      first_room ns c.args.of.text.bytes.now g.names c.args.expr c.args.looped b z c.args.p c.after-inside.result (c.args.depth - 1) c.args.depth c.args.of.room g br c.after-inside.ensures
          (omega (arith, c.if-depth-eq0.false)) _ _ c.in_ok-first.first c.in_ok-first.ensures,
    )

pub compile_branch-returns-in_err-last : goal.compile_branch-returns-in_err-last
compile_branch-returns-in_err-last t c =
    rw c.from_residual-in_err-last.ensures
    (λ ns b z g br.
    c.in_err-last.ensures ns _ _
    (given_else ns c.args.of.text.bytes.now g.names c.args.expr c.args.looped b z c.args.p c.after-inside.result (c.args.depth - 1) c.args.depth c.args.of.room g br c.after-inside.ensures
    (omega (arith, c.if-depth-eq0.false)) _ _ c.in_ok-first.first c.in_ok-first.ensures))

pub compile_branch-returns-then-last-of : goal.compile_branch-returns-then-last-of
compile_branch-returns-then-last-of t c = λ ns b z g br.
    omega (
      arith,
      c.if-last-of.true,
      last_room ns c.args.of.text.bytes.now g.names c.args.expr c.args.looped b z c.args.p c.after-inside.result (c.args.depth - 1) c.args.depth c.args.of.room g br c.after-inside.ensures
          (omega (arith, c.if-depth-eq0.false)) _ _ c.in_ok-first.first c.in_ok-first.ensures _ c.in_ok-last.last c.in_ok-last.ensures,
    )

pub compile_branch-returns : goal.compile_branch-returns
compile_branch-returns t c =
    let first = c.in_ok-first.ensures in
    let last = c.in_ok-last.ensures in
    let o = c.args.p.entry in
    let fe = c.in_ok-first.first.entry in
    let le = c.in_ok-last.last.entry in
    let ie : c.after-inside.result.entry ≡ suc o = c.after-inside.ensures.entry in
    let qe : c.after.result.entry ≡ suc le = c.after.ensures.entry in
    let u1 : c.after-inside.result.entry ≤ fe = first.moved.up in
    let u2 : fe ≤ le = last.up in
    record {
      moved = record {
        within = c.after.ensures.within;
        up = omega arith;
        fits = omega (arith, c.if-last-of.false);
        kept =
            kept-both _ _ _ o c.after.result.entry (kept-wider _ _ c.after-inside.result.entry fe o c.after.result.entry (omega arith) (omega arith) first.moved.kept)
            (kept-both _ _ _ o c.after.result.entry (kept-wider _ _ (suc fe) (suc le) o c.after.result.entry (omega arith) (omega arith) last.kept)
            (kept-wider _ _ o (suc le) o c.after.result.entry (omega arith) (omega arith) c.close.ensures.kept));
      };
      line = c.close.ensures.branch_line;
      further = omega arith;
      part = λ ns b z g br.
          branch_part ns c.args.of.text.bytes.now g.names c.args.expr c.args.looped b z c.args.p c.after-inside.result (c.args.depth - 1) c.args.depth c.args.of.room g br c.after-inside.ensures
          (omega (arith, c.if-depth-eq0.false)) _ _ c.in_ok-first.first first _ c.in_ok-last.last last _ c.after.result c.close.ensures c.after.ensures;
    }

pub compile_line-returns-in-Test : goal.compile_line-returns-in-Test
compile_line-returns-in-Test t c =
    branch-made c.args.of.text.bytes.now c.args.steps.now _ c.args.depth c.args.of.room c.args.p c.args.line false c.in-Test.expr c.requires.scanned c.in-Test.is c.compile_branch.result c.compile_branch.ensures

pub compile_line-returns-in-Loop : goal.compile_line-returns-in-Loop
compile_line-returns-in-Loop t c =
    branch-made c.args.of.text.bytes.now c.args.steps.now _ c.args.depth c.args.of.room c.args.p c.args.line true c.in-Loop.expr c.requires.scanned c.in-Loop.is c.compile_branch-in-Loop.result
    c.compile_branch-in-Loop.ensures

pub compile_line-returns-in_default : goal.compile_line-returns-in_default
compile_line-returns-in_default t c =
    let ne : c.after-next.result.entry ≡ suc c.args.p.entry = c.after-next.ensures.entry in
    let wrote = c.write_entry.ensures.there (omega (arith, c.requires.entry, c.requires.room)) in
    record {
      moved = record {
        within = c.after-next.ensures.within;
        up = omega arith;
        fits = omega (arith, c.requires.entry);
        kept = kept-wider _ _ c.args.p.entry (suc c.args.p.entry) c.args.p.entry c.after-next.result.entry (omega arith) (omega arith) (wrote_kept _ _ c.args.p.entry c.args.p.line c.step_of.result wrote);
      };
      line = wrote.told;
      further = omega arith;
      part = λ ns b z g.
          plain-part ns c.args.of.text.bytes.now z c.args.depth c.args.of.room _ _ b c.args.p c.after-next.result c.args.line c.step_of.result c.args.p.line c.requires.scanned c.requires.goes
          (flat-rest c.args.line c.in_default.not-Test c.in_default.not-Loop) c.after-next.ensures c.step_of.ensures wrote g;
    }

pub compile_lines-loop-line-init : goal.compile_lines-loop-line-init
compile_lines-loop-line-init t c = (
  record { within = c.requires.within; up = omega arith; fits = c.requires.entry; kept = kept-none c.args.steps.now c.args.from.entry c.args.from.entry },
  λ ns b z g. part_none ns c.args.of.text.bytes.now z c.args.depth c.args.of.room c.args.steps.now b c.args.from g,
)

pub compile_lines-scan_line-requires : goal.compile_lines-scan_line-requires
compile_lines-scan_line-requires t c = c.loop-line.invariant.0.within

pub compile_lines-returns-in_default : goal.compile_lines-returns-in_default
compile_lines-returns-in_default t c =
    record {
      moved = c.loop-line.invariant.0;
      done = λ ns b z g.
          stops-done ns c.args.of.text.bytes.now z c.args.depth c.args.of.room c.loop-line.steps b c.args.from c.loop-line.p None c.in_default.ensures refl g (c.loop-line.invariant.1 ns b z g);
    }

pub compile_lines-returns-then-stops : goal.compile_lines-returns-then-stops
compile_lines-returns-then-stops t c =
    record {
      moved = c.loop-line.invariant.0;
      done = λ ns b z g.
          stops-done ns c.args.of.text.bytes.now z c.args.depth c.args.of.room c.loop-line.steps b c.args.from c.loop-line.p (Some c.in-Some.line) c.in-Some.ensures
          (sym c.if-stops.ensures) g (c.loop-line.invariant.1 ns b z g);
    }

pub compile_lines-returns-then-p-of : goal.compile_lines-returns-then-p-of
compile_lines-returns-then-p-of t c = λ ns b z g.
    omega (
      arith,
      c.if-p-of.true,
      goes-room ns c.args.of.text.bytes.now z c.args.depth c.args.of.room c.loop-line.steps b c.args.from c.loop-line.p (Some c.in-Some.line) c.in-Some.ensures
          (sym c.if-stops.ensures) g (c.loop-line.invariant.1 ns b z g),
    )

pub compile_lines-compile_line-requires : goal.compile_lines-compile_line-requires
compile_lines-compile_line-requires t c = (
  search rules,
  (
    c.loop-line.invariant.0.within,
    (
      c.if-p-of.false,
      (
        omega (arith, c.requires.room, c.loop-line.auto.steps),
        (
          c.in-Some.ensures,
          sym c.if-stops.ensures,
        ),
      ),
    ),
  ),
)

pub compile_lines-returns-in_err-p : goal.compile_lines-returns-in_err-p
compile_lines-returns-in_err-p t c =
    rw c.from_residual.ensures
    (λ ns b z g.
    c.in_err-p.ensures ns _ _
    (given-rest ns c.args.of.text.bytes.now z c.args.depth c.args.of.room c.loop-line.steps b c.args.from c.loop-line.p g (c.loop-line.invariant.1 ns b z g)))

pub compile_lines-loop-line-preserved : goal.compile_lines-loop-line-preserved
compile_lines-loop-line-preserved t c =
    let m = c.loop-line.invariant.0 in
    let n = c.in_ok-p.ensures in
    let o = c.args.from.entry in
    let pe = c.loop-line.p.entry in
    let qe = c.in_ok-p.p.entry in
    let u1 : o ≤ pe = m.up in
    let u2 : pe ≤ qe = n.moved.up in (
      record {
        within = n.moved.within;
        up = omega arith;
        fits = n.moved.fits;
        kept = kept-both _ _ _ o qe (kept-wider _ _ o pe o qe (omega arith) u2 m.kept) (kept-wider _ _ pe qe o qe u1 (omega arith) n.moved.kept);
      },
      λ ns b z g.
          let one = c.loop-line.invariant.1 ns b z g in
          part-more ns c.args.of.text.bytes.now z c.args.depth c.args.of.room c.loop-line.steps c.compile_line.new.steps o b c.loop-line.p c.in_ok-p.p u1 u2 one
          (n.part ns one.rest z (given-rest ns c.args.of.text.bytes.now z c.args.depth c.args.of.room c.loop-line.steps b c.args.from c.loop-line.p g one)) n.moved.kept,
    )

pub else_lines-returns-in_default : goal.else_lines-returns-in_default
else_lines-returns-in_default t c =
    else-missing c.args.of.text.bytes.now c.args.steps.now c.args.depth c.args.of.room c.args.first c.scan_line.result c.scan_line.ensures
    (some-other c.scan_line.result c.in_default.field-0 Otherwise c.in_default.is (λ q. search rules)) c.requires.within c.requires.entry

pub else_lines-returns-in_default-2 : goal.else_lines-returns-in_default-2
else_lines-returns-in_default-2 t c =
    else-missing c.args.of.text.bytes.now c.args.steps.now c.args.depth c.args.of.room c.args.first c.scan_line.result c.scan_line.ensures (none-other c.scan_line.result Otherwise c.in_default.is) c.requires.within
    c.requires.entry

pub else_lines-returns-in_err-second : goal.else_lines-returns-in_err-second
else_lines-returns-in_err-second t c =
    rw c.from_residual.ensures
    (λ ns d z g.
    c.in_err-second.ensures ns _ _
    (given-second ns c.args.of.text.bytes.now c.args.depth c.args.of.room d z c.args.first c.after-begin.result c.scan_line.result c.scan_line.ensures (c.in-Some-Otherwise.is ∙ ap Some c.in-Some-Otherwise.field-0-is) c.after-begin.ensures g))

pub else_lines-returns-then-second-begin : goal.else_lines-returns-then-second-begin
else_lines-returns-then-second-begin t c =
    let made = c.in_ok-second.ensures in
    let fe = c.args.first.entry in
    let be : c.after-begin.result.entry ≡ suc fe = c.after-begin.ensures.entry in
    let se : c.in_ok-second.second.entry ≡ c.after-begin.result.entry = c.if-second-begin.true in
    record {
      within = made.moved.within;
      up = omega arith;
      fits = omega (arith, c.requires.entry);
      kept = kept-wider _ _ c.after-begin.result.entry c.in_ok-second.second.entry (suc fe) (suc fe) (omega arith) (omega arith) made.moved.kept;
      done = λ ns d z g.
          second_none ns c.args.of.text.bytes.now c.args.depth c.args.of.room d z _ c.args.first c.after-begin.result c.in_ok-second.second c.after-begin.ensures se
          (made.done ns d _ (given-second ns c.args.of.text.bytes.now c.args.depth c.args.of.room d z c.args.first c.after-begin.result c.scan_line.result c.scan_line.ensures (c.in-Some-Otherwise.is ∙ ap Some c.in-Some-Otherwise.field-0-is) c.after-begin.ensures g));
    }

pub else_lines-returns-else-second-begin : goal.else_lines-returns-else-second-begin
else_lines-returns-else-second-begin t c =
    let made = c.in_ok-second.ensures in
    let fe = c.args.first.entry in
    let be : c.after-begin.result.entry ≡ suc fe = c.after-begin.ensures.entry in
    let up : c.after-begin.result.entry ≤ c.in_ok-second.second.entry = made.moved.up in
    record {
      within = made.moved.within;
      up = omega arith;
      fits = made.moved.fits;
      kept = kept-wider _ _ c.after-begin.result.entry c.in_ok-second.second.entry (suc fe) (suc c.in_ok-second.second.entry) (omega arith) (omega arith) made.moved.kept;
      done = λ ns d z g.
          second-some ns c.args.of.text.bytes.now c.args.depth c.args.of.room d z _ c.args.first c.after-begin.result c.in_ok-second.second c.after-begin.ensures c.if-second-begin.false
          (made.done ns d _ (given-second ns c.args.of.text.bytes.now c.args.depth c.args.of.room d z c.args.first c.after-begin.result c.scan_line.result c.scan_line.ensures (c.in-Some-Otherwise.is ∙ ap Some c.in-Some-Otherwise.field-0-is) c.after-begin.ensures g));
    }
