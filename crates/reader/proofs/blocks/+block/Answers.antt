use Rattle.std.proofs.Common.{◌≡◌, ◌-◌, ◌<◌, ◌≤◌, false, sym, ap, ◌∙◌, arith}
use Rattle.std.proofs.lemmas.Result.{err_from_is_err_and}
use Rattle.grammar.specs.Walk.{place_in}
use Rattle.reader.specs.Blocks.{block_at}
use Rattle.reader.specs.declared.blocks.Kind.TheVariants.{Plain, Opens, Loops, Parts, Closes}
use Rattle.grammar.proofs.Atoms.{then-err, then_ok}
use Rattle.reader.proofs.Nexts.{block_step, block_kind, loop_left, end_left, same_else, cond-taken, cond-passed}
use Rattle.reader.proofs.blocks.+block.Goals as goal

pub returns-in_err-lined-clause-walk : goal.returns-in_err-lined-clause-walk
returns-in_err-lined-clause-walk t c ns f n h =
    let p = err_from_is_err_and c.from_residual.result c.from_residual.ensures.1 in
    rw (p.1, p.2) (then-err _ _ _ (c.in_err-lined.ensures.walk ns n) ∙ block_step (place_in ns) c.args.text.now c.args.deep c.args.left c.args.pos c.args.some f h (omega arith))

pub returns-in-Plain-clause-walk : goal.returns-in-Plain-clause-walk
returns-in-Plain-clause-walk t c ns f n h =
    let m : 0 < c.args.left = c.in_ok-lined.ensures.more in
    c.block.ensures.walk ns (f - 1) n (omega arith) ∙ block_kind (place_in ns) c.args.text.now c.args.deep c.args.left c.args.pos c.args.some f c.in_ok-lined.lined Plain h (omega arith) (c.in_ok-lined.ensures.walk ns n) c.in-Plain.ensures

pub returns-in-Parts-clause-walk : goal.returns-in-Parts-clause-walk
returns-in-Parts-clause-walk t c ns f n h = block_kind (place_in ns) c.args.text.now c.args.deep c.args.left c.args.pos c.args.some f c.in_ok-lined.lined Parts h (omega arith) (c.in_ok-lined.ensures.walk ns n) c.in-Parts.ensures

pub returns-in-Closes-clause-walk : goal.returns-in-Closes-clause-walk
returns-in-Closes-clause-walk t c ns f n h = block_kind (place_in ns) c.args.text.now c.args.deep c.args.left c.args.pos c.args.some f c.in_ok-lined.lined Closes h (omega arith) (c.in_ok-lined.ensures.walk ns n) c.in-Closes.ensures

pub returns-in_err-body-in-Loops-clause-walk : goal.returns-in_err-body-in-Loops-clause-walk
returns-in_err-body-in-Loops-clause-walk t c ns f n h =
    let p = err_from_is_err_and c.from_residual-in_err-body-in-Loops.result c.from_residual-in_err-body-in-Loops.ensures.1 in
    let m : 0 < c.args.left = c.in_ok-lined.ensures.more in
    rw (p.1, p.2) (then-err _ _ _ (c.in_err-body-in-Loops.ensures.walk ns (f - 1) n (omega arith) ∙ ap (λ d. block_at (place_in ns) c.args.text.now (f - 1) d (c.args.left - 1) c.in_ok-lined.lined.next false) c.saturating_sub.ensures) ∙ block_kind (place_in ns) c.args.text.now c.args.deep c.args.left c.args.pos c.args.some f c.in_ok-lined.lined Loops h (omega arith) (c.in_ok-lined.ensures.walk ns n) c.in-Loops.ensures)

pub returns-in_err-end-in-Loops-clause-walk : goal.returns-in_err-end-in-Loops-clause-walk
returns-in_err-end-in-Loops-clause-walk t c ns f n h =
    let p = err_from_is_err_and c.from_residual-in_err-end-in-Loops.result c.from_residual-in_err-end-in-Loops.ensures.1 in
    let m : 0 < c.args.left = c.in_ok-lined.ensures.more in
    rw (p.1, p.2) (then-err _ _ _ c.in_err-end-in-Loops.ensures ∙ then_ok _ _ _ (c.in_ok-body-in-Loops.ensures.walk ns (f - 1) n (omega arith) ∙ ap (λ d. block_at (place_in ns) c.args.text.now (f - 1) d (c.args.left - 1) c.in_ok-lined.lined.next false) c.saturating_sub.ensures) ∙ block_kind (place_in ns) c.args.text.now c.args.deep c.args.left c.args.pos c.args.some f c.in_ok-lined.lined Loops h (omega arith) (c.in_ok-lined.ensures.walk ns n) c.in-Loops.ensures)

pub returns-in_ok-end-in-Loops-clause-walk : goal.returns-in_ok-end-in-Loops-clause-walk
returns-in_ok-end-in-Loops-clause-walk t c ns f n h =
    let m : 0 < c.args.left = c.in_ok-lined.ensures.more in
    let e : c.in_ok-end-in-Loops.end.left ≡ c.in_ok-body-in-Loops.body.left = loop_left c.in_ok-body-in-Loops.body c.in_ok-end-in-Loops.end c.in_ok-end-in-Loops.ensures in
    let b : c.in_ok-body-in-Loops.body.left ≤ c.args.left - 1 = c.in_ok-body-in-Loops.ensures.fewer in
    c.block-in-Loops-2.ensures.walk ns (f - 1) n (omega arith) ∙ then_ok _ _ _ c.in_ok-end-in-Loops.ensures ∙ then_ok _ _ _ (c.in_ok-body-in-Loops.ensures.walk ns (f - 1) n (omega arith) ∙ ap (λ d. block_at (place_in ns) c.args.text.now (f - 1) d (c.args.left - 1) c.in_ok-lined.lined.next false) c.saturating_sub.ensures) ∙ block_kind (place_in ns) c.args.text.now c.args.deep c.args.left c.args.pos c.args.some f c.in_ok-lined.lined Loops h (omega arith) (c.in_ok-lined.ensures.walk ns n) c.in-Loops.ensures

pub returns-in_err-first-in-Opens-clause-walk : goal.returns-in_err-first-in-Opens-clause-walk
returns-in_err-first-in-Opens-clause-walk t c ns f n h =
    let p = err_from_is_err_and c.from_residual-in_err-first-in-Opens.result c.from_residual-in_err-first-in-Opens.ensures.1 in
    let m : 0 < c.args.left = c.in_ok-lined.ensures.more in
    rw (p.1, p.2) (then-err _ _ _ (c.in_err-first-in-Opens.ensures.walk ns (f - 1) n (omega arith) ∙ ap (λ d. block_at (place_in ns) c.args.text.now (f - 1) d (c.args.left - 1) c.in_ok-lined.lined.next false) c.saturating_sub-in-Opens.ensures) ∙ block_kind (place_in ns) c.args.text.now c.args.deep c.args.left c.args.pos c.args.some f c.in_ok-lined.lined Opens h (omega arith) (c.in_ok-lined.ensures.walk ns n) c.in-Opens.ensures)

pub returns-in_err-second-in-Opens-clause-walk : goal.returns-in_err-second-in-Opens-clause-walk
returns-in_err-second-in-Opens-clause-walk t c ns f n h =
    let p = err_from_is_err_and c.from_residual-in_err-second-in-Opens.result c.from_residual-in_err-second-in-Opens.ensures.1 in
    let m : 0 < c.args.left = c.in_ok-lined.ensures.more in
    let q : c.in_ok-first-in-Opens.first.left ≤ c.args.left - 1 = c.in_ok-first-in-Opens.ensures.fewer in
    rw (p.1, p.2) (then-err _ _ _ (c.in_err-second-in-Opens.ensures.walk ns (f - 1) n (omega arith) ∙ ap (λ d. block_at (place_in ns) c.args.text.now (f - 1) d c.in_ok-first-in-Opens.first.left c.in_ok-first-in-Opens.first.next false) c.saturating_sub-then-eq.ensures) ∙ cond-taken _ _ _ (sym (c.eq.ensures ∙ same_else _) ∙ c.if-eq.true) ∙ then_ok _ _ _ (c.in_ok-first-in-Opens.ensures.walk ns (f - 1) n (omega arith) ∙ ap (λ d. block_at (place_in ns) c.args.text.now (f - 1) d (c.args.left - 1) c.in_ok-lined.lined.next false) c.saturating_sub-in-Opens.ensures) ∙ block_kind (place_in ns) c.args.text.now c.args.deep c.args.left c.args.pos c.args.some f c.in_ok-lined.lined Opens h (omega arith) (c.in_ok-lined.ensures.walk ns n) c.in-Opens.ensures)

pub returns-in_err-last-in-Opens-clause-walk : goal.returns-in_err-last-in-Opens-clause-walk
returns-in_err-last-in-Opens-clause-walk t c ns f n h =
    let p = err_from_is_err_and c.from_residual-in_err-last-in-Opens.result c.from_residual-in_err-last-in-Opens.ensures.1 in
    let m : 0 < c.args.left = c.in_ok-lined.ensures.more in
    let q : c.in_ok-first-in-Opens.first.left ≤ c.args.left - 1 = c.in_ok-first-in-Opens.ensures.fewer in
    rw (p.1, p.2) (then-err _ _ _ c.in_err-last-in-Opens.ensures ∙ then_ok _ _ _ (c.in_ok-second-in-Opens.ensures.walk ns (f - 1) n (omega arith) ∙ ap (λ d. block_at (place_in ns) c.args.text.now (f - 1) d c.in_ok-first-in-Opens.first.left c.in_ok-first-in-Opens.first.next false) c.saturating_sub-then-eq.ensures) ∙ cond-taken _ _ _ (sym (c.eq.ensures ∙ same_else _) ∙ c.if-eq.true) ∙ then_ok _ _ _ (c.in_ok-first-in-Opens.ensures.walk ns (f - 1) n (omega arith) ∙ ap (λ d. block_at (place_in ns) c.args.text.now (f - 1) d (c.args.left - 1) c.in_ok-lined.lined.next false) c.saturating_sub-in-Opens.ensures) ∙ block_kind (place_in ns) c.args.text.now c.args.deep c.args.left c.args.pos c.args.some f c.in_ok-lined.lined Opens h (omega arith) (c.in_ok-lined.ensures.walk ns n) c.in-Opens.ensures)

pub returns-then-eq-clause-walk : goal.returns-then-eq-clause-walk
returns-then-eq-clause-walk t c ns f n h =
    let m : 0 < c.args.left = c.in_ok-lined.ensures.more in
    let q : c.in_ok-first-in-Opens.first.left ≤ c.args.left - 1 = c.in_ok-first-in-Opens.ensures.fewer in
    let e : c.in_ok-last-in-Opens.last.left ≡ c.in_ok-second-in-Opens.second.left = end_left c.in_ok-second-in-Opens.second c.in_ok-last-in-Opens.last c.in_ok-last-in-Opens.ensures in
    let b : c.in_ok-second-in-Opens.second.left ≤ c.in_ok-first-in-Opens.first.left = c.in_ok-second-in-Opens.ensures.fewer in
    c.block-then-eq-2.ensures.walk ns (f - 1) n (omega arith) ∙ then_ok _ _ _ c.in_ok-last-in-Opens.ensures ∙ then_ok _ _ _ (c.in_ok-second-in-Opens.ensures.walk ns (f - 1) n (omega arith) ∙ ap (λ d. block_at (place_in ns) c.args.text.now (f - 1) d c.in_ok-first-in-Opens.first.left c.in_ok-first-in-Opens.first.next false) c.saturating_sub-then-eq.ensures) ∙ cond-taken _ _ _ (sym (c.eq.ensures ∙ same_else _) ∙ c.if-eq.true) ∙ then_ok _ _ _ (c.in_ok-first-in-Opens.ensures.walk ns (f - 1) n (omega arith) ∙ ap (λ d. block_at (place_in ns) c.args.text.now (f - 1) d (c.args.left - 1) c.in_ok-lined.lined.next false) c.saturating_sub-in-Opens.ensures) ∙ block_kind (place_in ns) c.args.text.now c.args.deep c.args.left c.args.pos c.args.some f c.in_ok-lined.lined Opens h (omega arith) (c.in_ok-lined.ensures.walk ns n) c.in-Opens.ensures

pub returns-in_err-end-in-Opens-clause-walk : goal.returns-in_err-end-in-Opens-clause-walk
returns-in_err-end-in-Opens-clause-walk t c ns f n h =
    let p = err_from_is_err_and c.from_residual-in_err-end-in-Opens.result c.from_residual-in_err-end-in-Opens.ensures.1 in
    let m : 0 < c.args.left = c.in_ok-lined.ensures.more in
    let q : c.in_ok-first-in-Opens.first.left ≤ c.args.left - 1 = c.in_ok-first-in-Opens.ensures.fewer in
    rw (p.1, p.2) (then-err _ _ _ c.in_err-end-in-Opens.ensures ∙ cond-passed _ _ _ (sym (c.eq.ensures ∙ same_else _) ∙ c.if-eq.false) ∙ then_ok _ _ _ (c.in_ok-first-in-Opens.ensures.walk ns (f - 1) n (omega arith) ∙ ap (λ d. block_at (place_in ns) c.args.text.now (f - 1) d (c.args.left - 1) c.in_ok-lined.lined.next false) c.saturating_sub-in-Opens.ensures) ∙ block_kind (place_in ns) c.args.text.now c.args.deep c.args.left c.args.pos c.args.some f c.in_ok-lined.lined Opens h (omega arith) (c.in_ok-lined.ensures.walk ns n) c.in-Opens.ensures)

pub returns-in_ok-end-in-Opens-clause-walk : goal.returns-in_ok-end-in-Opens-clause-walk
returns-in_ok-end-in-Opens-clause-walk t c ns f n h =
    let m : 0 < c.args.left = c.in_ok-lined.ensures.more in
    let q : c.in_ok-first-in-Opens.first.left ≤ c.args.left - 1 = c.in_ok-first-in-Opens.ensures.fewer in
    let e : c.in_ok-end-in-Opens.end.left ≡ c.in_ok-first-in-Opens.first.left = end_left c.in_ok-first-in-Opens.first c.in_ok-end-in-Opens.end c.in_ok-end-in-Opens.ensures in
    c.block-in-Opens-2.ensures.walk ns (f - 1) n (omega arith) ∙ then_ok _ _ _ c.in_ok-end-in-Opens.ensures ∙ cond-passed _ _ _ (sym (c.eq.ensures ∙ same_else _) ∙ c.if-eq.false) ∙ then_ok _ _ _ (c.in_ok-first-in-Opens.ensures.walk ns (f - 1) n (omega arith) ∙ ap (λ d. block_at (place_in ns) c.args.text.now (f - 1) d (c.args.left - 1) c.in_ok-lined.lined.next false) c.saturating_sub-in-Opens.ensures) ∙ block_kind (place_in ns) c.args.text.now c.args.deep c.args.left c.args.pos c.args.some f c.in_ok-lined.lined Opens h (omega arith) (c.in_ok-lined.ensures.walk ns n) c.in-Opens.ensures
