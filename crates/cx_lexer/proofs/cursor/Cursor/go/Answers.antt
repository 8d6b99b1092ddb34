use Rattle.std.proofs.Common.{length, ap, sym, ◌∙◌, arith}
use Rattle.cx_base.specs.declared.place.Place.{Place}
use Rattle.cx_lexer.specs.Places.{place_at, place_behind}
use Rattle.cx_lexer.proofs.Goes.{goes}
use Rattle.cx_lexer.proofs.cursor.Cursor.go.Goals as goal

pub overflow_sub-here : goal.overflow_sub-here
overflow_sub-here c =
    let g = goes c.args.self.now.src.now c.rest-here.result.now c.args.rest.now c.args.self.now.from c.rest-here.utf8 c.utf8.rest c.rest-here.ensures c.requires in
    g.here_cut.le

pub split_at-requires : goal.split_at-requires
split_at-requires c =
    let g = goes c.args.self.now.src.now c.rest-here.result.now c.args.rest.now c.args.self.now.from c.rest-here.utf8 c.utf8.rest c.rest-here.ensures c.requires in
    g.here_boundary

pub place_behind-at-requires-clause-lines_fit : goal.place_behind-at-requires-clause-lines_fit
place_behind-at-requires-clause-lines_fit c =
    let g = goes c.args.self.now.src.now c.rest-here.result.now c.args.rest.now c.args.self.now.from c.rest-here.utf8 c.utf8.rest c.rest-here.ensures c.requires in
    let e = c.as_bytes.ensures.value ∙ c.split_at.ensures.front ∙ g.here_cut.taken in
    omega (arith, ap length e, g.line, ap (λ (p : Place). p.line) c.args.self.now.here, c.args.self.now.short)

pub place_behind-at-requires-clause-columns_fit : goal.place_behind-at-requires-clause-columns_fit
place_behind-at-requires-clause-columns_fit c =
    let g = goes c.args.self.now.src.now c.rest-here.result.now c.args.rest.now c.args.self.now.from c.rest-here.utf8 c.utf8.rest c.rest-here.ensures c.requires in
    let e = c.as_bytes.ensures.value ∙ c.split_at.ensures.front ∙ g.here_cut.taken in
    omega (arith, ap length e, g.col, ap (λ (p : Place). p.col) c.args.self.now.here, c.args.self.now.short)

pub overflow_sub-self : goal.overflow_sub-self
overflow_sub-self c =
    let g = goes c.args.self.now.src.now c.rest-here.result.now c.args.rest.now c.args.self.now.from c.rest-here.utf8 c.utf8.rest c.rest-here.ensures c.requires in
    g.src_le

pub invariant_of-self : goal.invariant_of-self
invariant_of-self c =
    let g = goes c.args.self.now.src.now c.rest-here.result.now c.args.rest.now c.args.self.now.from c.rest-here.utf8 c.utf8.rest c.rest-here.ensures c.requires in
    let e = c.as_bytes.ensures.value ∙ c.split_at.ensures.front ∙ g.here_cut.taken in
    record {
      short = c.args.self.now.short;
      boundary = g.src_boundary;
      here = c.place_behind-at.ensures ∙ ap (λ (p : Place). place_behind p c.as_bytes.result.now) c.args.self.now.here ∙ ap (place_behind (place_at c.args.self.now.src.now c.args.self.now.from)) e ∙ sym g.at;
    }

pub returns-clause-rest : goal.returns-clause-rest
returns-clause-rest c =
    let g = goes c.args.self.now.src.now c.rest-here.result.now c.args.rest.now c.args.self.now.from c.rest-here.utf8 c.utf8.rest c.rest-here.ensures c.requires in
    g.src_left

pub returns-clause-text : goal.returns-clause-text
returns-clause-text c =
    let g = goes c.args.self.now.src.now c.rest-here.result.now c.args.rest.now c.args.self.now.from c.rest-here.utf8 c.utf8.rest c.rest-here.ensures c.requires in
    c.split_at.ensures.front ∙ g.here_cut.taken ∙ g.is
