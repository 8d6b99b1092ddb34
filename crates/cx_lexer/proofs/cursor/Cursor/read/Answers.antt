use Rattle.std.proofs.Common.{ℕ, List, drop, sym, ap, ◌∙◌}
use Rattle.std.specs.Str.{chars}
use Rattle.cx_lexer.specs.Places.{place_at}
use Rattle.cx_lexer.specs.Reading.{token_fault}
use Rattle.cx_lexer.proofs.Steps.{unit_end, unit_none, unit_token_ends, unit_bad, unit_ok}
use Rattle.cx_lexer.proofs.cursor.Cursor.read.Goals as goal

pub returns-in_default-clause-step : goal.returns-in_default-clause-step
returns-in_default-clause-step c = unit_end c.args.self.now.src.now c.rest-here.result.now c.args.self.now.from c.args.self.now.at c.args.self.now.here c.rest-here.ensures c.in_default.ensures.parts

pub returns-in_default-behind_token-clause-step : goal.returns-in_default-behind_token-clause-step
returns-in_default-behind_token-clause-step c = unit_none c.args.self.now.src.now c.rest-here.result.now c.args.self.now.from c.args.self.now.at c.in-Some.first _ c.args.self.now.here c.rest-here.ensures c.in-Some.ensures.parts c.in_default-behind_token.ensures

pub go-text-requires : goal.go-text-requires
go-text-requires c = unit_token_ends c.args.self.now.src.now c.rest-here.result.now c.args.self.now.from (chars c.in-Some-behind_token.rest.now) c.rest-here.ensures c.in-Some-behind_token.ensures

pub returns-in-Some-token_fault-clause-step : goal.returns-in-Some-token_fault-clause-step
returns-in-Some-token_fault-clause-step c =
    unit_bad c.args.self.now.src.now c.rest-here.result.now c.in-Some-behind_token.rest.now c.go-text.result.now c.args.self.now.from c.args.self.now.at c.in-Some.first _ c.kind_by-kind.result c.in-Some-token_fault.fault c.args.self.now.here c.rest-here.ensures c.in-Some.ensures.parts c.in-Some-behind_token.ensures c.go-text.ensures.text c.kind_by-kind.ensures (c.in-Some-token_fault.ensures ∙ ap (token_fault c.kind_by-kind.result) c.as_bytes.ensures.value)

pub returns-in-None-clause-step : goal.returns-in-None-clause-step
returns-in-None-clause-step c =
    let to = c.go-text.new.self.from in
    let there = c.go-text.new.self.here ∙ ap (λ (x : List ℕ). place_at x to) c.go-text.ensures.src in
    let left = sym (ap (λ (x : List ℕ). drop to x) c.go-text.ensures.src) ∙ c.go-text.ensures.rest in
    unit_ok c.args.self.now.src.now c.rest-here.result.now c.in-Some-behind_token.rest.now c.go-text.result.now c.args.self.now.from to c.args.self.now.at c.go-text.new.self.at c.in-Some.first _ c.kind_by-kind.result c.args.self.now.here there left c.go-text.ensures.at c.rest-here.ensures c.in-Some.ensures.parts c.in-Some-behind_token.ensures c.go-text.ensures.text c.kind_by-kind.ensures (c.in-None.ensures ∙ ap (token_fault c.kind_by-kind.result) c.as_bytes.ensures.value)
