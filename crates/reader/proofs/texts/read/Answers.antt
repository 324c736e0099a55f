use Rattle.std.proofs.lemmas.Result.{err_from_is_err_and}
use Rattle.reader.proofs.Whole.{break-own, break-cells, break-stop, break-end, read_walk, read_taken}
use Rattle.reader.proofs.Goesonread.{goes_on}
use Rattle.reader.proofs.Wholeheads.{every-read}
use Rattle.reader.proofs.texts.read.Goals as goal

pub returns-in_err-own : goal.returns-in_err-own
returns-in_err-own c =
    let p = err_from_is_err_and c.from_residual.result c.from_residual.ensures.1 in
    rw (p.1, p.2) (let w = break-own c.args.text.now _ c.in_err-own.ensures in record { walk = w; taken = tt; every = every-read c.args.text.now _ w; shape = goes_on c.args.text.now _ w })

pub returns-in_err-cells : goal.returns-in_err-cells
returns-in_err-cells c =
    let p = err_from_is_err_and c.from_residual-in_err-cells.result c.from_residual-in_err-cells.ensures.1 in
    rw (p.1, p.2) (let w = break-cells c.args.text.now c.in_ok-own.own c.in_ok-own.ensures _ c.in_err-cells.ensures in record { walk = w; taken = tt; every = every-read c.args.text.now _ w; shape = goes_on c.args.text.now _ w })

pub returns-in_err-stop : goal.returns-in_err-stop
returns-in_err-stop c =
    let p = err_from_is_err_and c.from_residual-in_err-stop.result c.from_residual-in_err-stop.ensures.1 in
    rw (p.1, p.2) (let w = break-stop c.args.text.now c.in_ok-own.own c.in_ok-own.ensures c.in_ok-cells.cells c.in_ok-cells.ensures c.head_lines-first.result c.head_lines-first.ensures _ c.in_err-stop.ensures.walk in record { walk = w; taken = tt; every = every-read c.args.text.now _ w; shape = goes_on c.args.text.now _ w })

pub returns-in_err-end : goal.returns-in_err-end
returns-in_err-end c =
    let p = err_from_is_err_and c.from_residual-in_err-end.result c.from_residual-in_err-end.ensures.1 in
    rw (p.1, p.2) (let w = break-end c.args.text.now c.in_ok-own.own c.in_ok-own.ensures c.in_ok-cells.cells c.in_ok-cells.ensures c.head_lines-first.result c.head_lines-first.ensures c.in_ok-stop.stop c.in_ok-stop.ensures.walk _ c.in_err-end.ensures in record { walk = w; taken = tt; every = every-read c.args.text.now _ w; shape = goes_on c.args.text.now _ w })

pub returns : goal.returns
returns c = let w = read_walk c.args.text.now c.in_ok-own.own c.in_ok-own.ensures c.in_ok-cells.cells c.in_ok-cells.ensures c.head_lines-first.result c.head_lines-first.ensures c.in_ok-stop.stop c.in_ok-stop.ensures.walk c.in_ok-end.end c.in_ok-end.ensures in record { walk = w; taken = read_taken c.args.text.now c.in_ok-own.own c.in_ok-own.ensures c.in_ok-cells.cells c.in_ok-cells.ensures c.head_lines-first.result c.head_lines-first.ensures c.in_ok-stop.stop c.in_ok-stop.ensures.walk c.in_ok-end.end c.in_ok-end.ensures; every = every-read c.args.text.now _ w; shape = goes_on c.args.text.now _ w }
