use Rattle.std.proofs.Common.{Some, refl, ap, ◌∙◌, arith, rules}
use Rattle.code.specs.declared.scan.Line.TheVariants.{Heading}
use Rattle.code.specs.Make.{NextLine}
use Rattle.code.proofs.Heads.{some-other, none-other}
use Rattle.code.proofs.Wholes.{no-heading, past-heading}
use Rattle.code.proofs.compile.skip_heading.Goals as goal

pub returns-in_default : goal.returns-in_default
returns-in_default c =
    no-heading c.args.text.bytes.now c.args.p c.scan_line.result c.scan_line.ensures (some-other c.scan_line.result c.in_default.field-0 Heading c.in_default.is (λ q. search rules)) c.requires

pub returns-in_default-2 : goal.returns-in_default-2
returns-in_default-2 c = no-heading c.args.text.bytes.now c.args.p c.scan_line.result c.scan_line.ensures (none-other c.scan_line.result Heading c.in_default.is) c.requires

pub returns : goal.returns
unfolding NextLine
returns c =
    past-heading c.args.text.bytes.now c.args.p c.scan_line.result c.scan_line.ensures _ (c.in-Some-Heading.is ∙ ap Some c.in-Some-Heading.field-0-is) c.next_line.ensures.within refl (λ h. omega (arith, c.saturating_add.ensures)) c.next_line.ensures.on
