use Rattle.cx_spots.specs.Classes.{meaning}
use Rattle.cx_spots.specs.Spots.{left_at, context_of}
use Rattle.cx_spots.proofs.Takes.{class_reads, all_fit}
use Rattle.cx_spots.proofs.spot.Spot.take.Goals as goal

pub returns-clause-exact : goal.returns-clause-exact
returns-clause-exact c = rw (class_reads c.args.class (context_of c.args.context) c.args.load 256 c.begins-fits.result (left_at c.args.self) c.begins-fits.ensures) at c.take_if.ensures.exact

pub returns-clause-fits : goal.returns-clause-fits
returns-clause-fits c =
    all_fit c.args.load (meaning c.args.class (context_of c.args.context)) (left_at c.args.self) c.take_if.result
    (rw (class_reads c.args.class (context_of c.args.context) c.args.load 256 c.begins-fits.result (left_at c.args.self) c.begins-fits.ensures) at c.take_if.ensures.exact)
