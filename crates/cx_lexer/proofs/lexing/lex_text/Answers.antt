use Rattle.std.proofs.Common.{◌≡◌, ℕ, ◌<◌, List, [], ◌∷◌, ◌++◌, drop, length, map, sym, ap, ◌∙◌, subst, arith}
use Rattle.std.specs.Str.{chars}
use Rattle.std.proofs.lemmas.Grind.{common_steps}
use Rattle.cx_lexer.specs.Tokens.{TokenTree, token_tree}
use Rattle.cx_lexer.specs.Reading.{spot, start_of, tokens_from, joined, fault_at}
use Rattle.cx_lexer.proofs.Steps.{at_unit_ok, at_unit_err, loop_start, loop_end, loop_on, loop_fault, same_refusal, next_shorter, ok_of}
use Rattle.cx_lexer.proofs.lexing.lex_text.Goals as goal

pub reading-init : goal.reading-init
reading-init c = record {
  src = c.new-cursor.ensures.src;
  goes_on = loop_start c.args.src.now c.new-cursor.result.from (map token_tree c.new-tokens.result.items) c.new-cursor.ensures.from (ap (map token_tree) c.new-tokens.ensures.items);
}

pub returns-then-is_end : goal.returns-then-is_end
returns-then-is_end c =
    let src = c.args.src.now in
    let ts = map token_tree c.reading.tokens.items in
    let step = at_unit_ok src c.reading.cursor.src.now c.reading.cursor.from c.next.new.self.from (token_tree c.in-Ok.token) c.reading.invariant.src c.in-Ok.ensures.step in
    let its : map token_tree c.push.new.self.items ≡ ts ++ token_tree c.in-Ok.token ∷ [] = grind (arith, common_steps) in
    loop_end ts (spot src c.reading.cursor.from) (record { token = token_tree c.in-Ok.token; behind = spot src c.next.new.self.from }) (tokens_from (start_of src)) step (sym c.is_end.ensures ∙ c.if-is_end.true) c.reading.invariant.goes_on ∙ ap ok_of (sym its)

pub reading-smaller : goal.reading-smaller
reading-smaller c =
    let old = c.reading.cursor.src.now in
    let less = next_shorter (spot old c.reading.cursor.from) (record { token = token_tree c.in-Ok.token; behind = spot old c.next.new.self.from }) c.in-Ok.ensures.step (sym c.is_end.ensures ∙ c.if-is_end.false) in
    subst (λ (x : List ℕ). length (chars (drop c.next.new.self.from x)) < length (chars (drop c.reading.cursor.from old))) (sym c.next.ensures.src) less

pub reading-preserved : goal.reading-preserved
reading-preserved c =
    let src = c.args.src.now in
    let ts = map token_tree c.reading.tokens.items in
    let step = at_unit_ok src c.reading.cursor.src.now c.reading.cursor.from c.next.new.self.from (token_tree c.in-Ok.token) c.reading.invariant.src c.in-Ok.ensures.step in
    let its : map token_tree c.push.new.self.items ≡ ts ++ token_tree c.in-Ok.token ∷ [] = grind (arith, common_steps) in
    record {
      src = c.next.ensures.src ∙ c.reading.invariant.src;
      goes_on = ap (λ (x : List TokenTree). joined x (tokens_from (spot src c.next.new.self.from))) its
          ∙ loop_on ts (spot src c.reading.cursor.from) (record { token = token_tree c.in-Ok.token; behind = spot src c.next.new.self.from }) (tokens_from (start_of src)) step (sym c.is_end.ensures ∙ c.if-is_end.false) c.reading.invariant.goes_on;
    }

pub returns-in-Err : goal.returns-in-Err
returns-in-Err c =
    let src = c.args.src.now in
    let step = at_unit_err src c.reading.cursor.src.now c.reading.cursor.from (fault_at c.in-Err.kind c.in-Err.at) c.reading.invariant.src c.in-Err.ensures.step in
    same_refusal (tokens_from (start_of src)) (fault_at c.in-Err.kind c.in-Err.at) _ (loop_fault (map token_tree c.reading.tokens.items) (spot src c.reading.cursor.from) (fault_at c.in-Err.kind c.in-Err.at) (tokens_from (start_of src)) step c.reading.invariant.goes_on) c.fault.ensures
