use Rattle.std.proofs.Common.{◌≡◌, ◌≤◌, refl, arith, MatchOption, rules}
use Rattle.grammar.specs.Taken.{lines_in}
use Rattle.code.proofs.Wholes.{short-text, whole}
use Rattle.code.proofs.compile.compile.Goals as goal

pub returns-then-text-ge2147483648 : goal.returns-then-text-ge2147483648
returns-then-text-ge2147483648 c =
    record { few = omega arith; made = λ ns p t h. absurd (omega (arith, short-text ns p c.args.text.now t, c.if-text-ge2147483648.true)); joining = λ ns p t h. absurd (omega (arith, short-text ns p c.args.text.now t, c.if-text-ge2147483648.true)) }

pub returns-clause-made : goal.returns-clause-made
returns-clause-made c = λ ns p t h.
    let many : MatchOption c.compile_lines.result (c.map_or.result ≡ 0) (λ q. c.map_or.result ≡ q.entry) = search rules in
    let room : lines_in c.args.text.now ≤ c.min-room.result = omega (arith, t.few_lines, c.min-room.ensures) in
    (whole ns p c.args.text.now c.args.steps.now c.compile_lines.new.steps c.min-room.result c.map_or.result _ c.skip_heading.result c.skip_heading-start.result c.compile_lines.result t refl refl c.skip_heading.ensures
    c.skip_heading-start.ensures room c.compile_lines.ensures many).0

pub returns-clause-joining : goal.returns-clause-joining
returns-clause-joining c = λ ns p t h.
    let many : MatchOption c.compile_lines.result (c.map_or.result ≡ 0) (λ q. c.map_or.result ≡ q.entry) = search rules in
    let room : lines_in c.args.text.now ≤ c.min-room.result = omega (arith, t.few_lines, c.min-room.ensures) in
    (whole ns p c.args.text.now c.args.steps.now c.compile_lines.new.steps c.min-room.result c.map_or.result _ c.skip_heading.result c.skip_heading-start.result c.compile_lines.result t refl refl c.skip_heading.ensures
    c.skip_heading-start.ensures room c.compile_lines.ensures many).1
