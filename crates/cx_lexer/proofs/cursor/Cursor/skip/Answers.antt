use Rattle.std.proofs.Common.{ℕ, ◌<◌, List, drop, length, Some, None, sym, ap, ◌∙◌, subst}
use Rattle.std.specs.Str.{chars}
use Rattle.cx_lexer.specs.Places.{place_at}
use Rattle.cx_lexer.specs.Reading.{spot, skip, begins_line}
use Rattle.cx_lexer.proofs.Steps.{skipped_here, skipped_end, skipped_shorter, skip_on, skip_off, spot_gone}
use Rattle.cx_lexer.proofs.cursor.Cursor.skip.Goals as goal

pub go-requires : goal.go-requires
go-requires c = skipped_end (begins_line (place_at c.loop-rest.self.src.now c.loop-rest.self.from)) (chars (drop c.loop-rest.self.from c.loop-rest.self.src.now)) (chars c.in-Some.rest.now) (skipped_here c.loop-rest.self.src.now c.rest.result.now c.loop-rest.self.from c.loop-rest.self.at (Some (chars c.in-Some.rest.now)) c.loop-rest.self.here c.rest.ensures c.in-Some.ensures)

pub loop-rest-smaller : goal.loop-rest-smaller
loop-rest-smaller c =
    let less = skipped_shorter (begins_line (place_at c.loop-rest.self.src.now c.loop-rest.self.from)) (chars (drop c.loop-rest.self.from c.loop-rest.self.src.now)) (chars c.in-Some.rest.now) (skipped_here c.loop-rest.self.src.now c.rest.result.now c.loop-rest.self.from c.loop-rest.self.at (Some (chars c.in-Some.rest.now)) c.loop-rest.self.here c.rest.ensures c.in-Some.ensures) in
    subst (λ (x : List ℕ). length (chars x) < length (chars (drop c.loop-rest.self.from c.loop-rest.self.src.now))) (sym c.go.ensures.rest) less

pub loop-rest-preserved : goal.loop-rest-preserved
loop-rest-preserved c =
    let src = c.loop-rest.self.src.now in
    let to = c.go.new.self.from in
    let there = c.go.new.self.here ∙ ap (λ (x : List ℕ). place_at x to) c.go.ensures.src in
    let left = sym (ap (λ (x : List ℕ). drop to x) c.go.ensures.src) ∙ c.go.ensures.rest in
    let goes = spot_gone src c.in-Some.rest.now c.go.result.now c.loop-rest.self.from to c.loop-rest.self.at c.go.new.self.at c.loop-rest.self.here there left c.go.ensures.text c.go.ensures.at in
    let on = skip_on (spot src c.loop-rest.self.from) (chars c.in-Some.rest.now) (skipped_here c.loop-rest.self.src.now c.rest.result.now c.loop-rest.self.from c.loop-rest.self.at (Some (chars c.in-Some.rest.now)) c.loop-rest.self.here c.rest.ensures c.in-Some.ensures) in
    record {
      src = c.go.ensures.src ∙ c.loop-rest.invariant.src;
      goes_on = ap (λ (x : List ℕ). skip (spot x to)) (sym c.loop-rest.invariant.src) ∙ ap skip goes ∙ sym on ∙ ap (λ (x : List ℕ). skip (spot x c.loop-rest.self.from)) c.loop-rest.invariant.src ∙ c.loop-rest.invariant.goes_on;
    }

pub returns-clause-at : goal.returns-clause-at
returns-clause-at c =
    let src = c.loop-rest.self.src.now in
    let off = skip_off (spot src c.loop-rest.self.from) (skipped_here src c.rest.result.now c.loop-rest.self.from c.loop-rest.self.at None c.loop-rest.self.here c.rest.ensures c.in_default.ensures) in
    ap (λ (x : List ℕ). spot x c.loop-rest.self.from) (sym c.loop-rest.invariant.src) ∙ sym off ∙ ap (λ (x : List ℕ). skip (spot x c.loop-rest.self.from)) c.loop-rest.invariant.src ∙ c.loop-rest.invariant.goes_on
