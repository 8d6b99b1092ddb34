use Rattle.std.proofs.Common.{ap}
use Rattle.cx_prop.specs.declared.counts.Counts.{Counts}
use Rattle.cx_prop.specs.Counting.{disjunctive, conjunctive, atoms_in}
use Rattle.cx_prop.proofs.CountingLemmas.{product, total, conjunctive-positive}
use Rattle.cx_prop.proofs.counts.Counts.or.Goals as goal

pub returns : goal.returns
returns c p q h k =
    let d = total c.saturating_add.result c.args.self.dnf c.args.other.dnf (disjunctive p) (disjunctive q) c.saturating_add.ensures (ap (λ (x : Counts). x.dnf) h) (ap (λ (x : Counts). x.dnf) k) in
    let n = product c.saturating_mul.result c.args.self.cnf c.args.other.cnf (conjunctive p) (conjunctive q) c.saturating_mul.ensures (ap (λ (x : Counts). x.cnf) h) (ap (λ (x : Counts). x.cnf) k) (conjunctive-positive p) (conjunctive-positive q) in
    let a = total c.saturating_add-2.result c.args.self.atoms c.args.other.atoms (atoms_in p) (atoms_in q) c.saturating_add-2.ensures (ap (λ (x : Counts). x.atoms) h) (ap (λ (x : Counts). x.atoms) k) in
    λ i. record { dnf = d i; cnf = n i; atoms = a i }
