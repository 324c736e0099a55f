use Rattle.values.proofs.Leafs.{worth-fixed, worth-own, worth-lane, worth-group, worth-lanes}
use Rattle.values.proofs.eval.leaf_row.Goals as goal

pub returns-in-Fixed : goal.returns-in-Fixed
returns-in-Fixed c = worth-fixed c.args.leaf c.args.row.now _ _ c.in-Fixed.is c.fill.ensures

pub returns-then-k-row : goal.returns-then-k-row
returns-then-k-row c = worth-own c.args.leaf c.args.row.now _ _ c.in-Own.is c.load.ensures

pub returns-in-Lane : goal.returns-in-Lane
returns-in-Lane c = worth-lane c.args.leaf c.args.row.now _ c.in-Lane.is c.count.ensures

pub returns-in-Group : goal.returns-in-Group
returns-in-Group c = worth-group c.args.leaf c.args.row.now _ c.in-Group.is c.fill-in-Group.ensures

pub returns-in-Lanes : goal.returns-in-Lanes
returns-in-Lanes c = worth-lanes c.args.leaf c.args.row.now _ c.in-Lanes.is c.fill-in-Lanes.ensures
