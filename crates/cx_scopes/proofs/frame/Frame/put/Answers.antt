use Rattle.std.proofs.Common.{◌≡◌, ℕ, List, Bor, ap, ◌∙◌}
use Rattle.std.specs.Prelude.{map}
use Rattle.std.specs.Str.{bytes_eq}
use Rattle.std.specs.Map.{lookup}
use Rattle.indexmap.specs.IndexMap.{insert_entry}
use Rattle.cx_scopes.specs.declared.frame.Noted.{Noted}
use Rattle.cx_names.specs.declared.name_kind.NameKind.{NameKind}
use Rattle.cx_scopes.proofs.FrameLemmas.{entry_of, next_noted, put-entries}
use Rattle.cx_scopes.proofs.frame.Frame.put.Goals.{in-Some, in-None}
use Rattle.cx_scopes.proofs.frame.Frame.put.Goals as goal

pub returns-clause-ok : goal.returns-clause-ok
returns-clause-ok c =
    let noted : c.match-get.noted ≡ next_noted c.args.kind c.args.at (lookup (λ (y : Bor (List ℕ)). bytes_eq c.args.name.now y.now) c.self.inside.names.entries) =
    elim c.match-get.branch [
      | in-Some w ↦ w.noted-is
          ∙ ap (λ (k : NameKind). record { kind = k; at = w.in-Some.earlier.now.at }) w.followed_by.ensures
          ∙ ap (next_noted c.args.kind c.args.at) w.in-Some.ensures.value
      | in-None w ↦ w.noted-is ∙ ap (next_noted c.args.kind c.args.at) w.in-None.ensures.value
    ] in
    rw (← c.self.view_is) (ap (map entry_of) c.in_ok-insert.ensures.entries
    ∙ ap (λ (n : Noted). map entry_of (insert_entry (λ (x y : Bor (List ℕ)). bytes_eq x.now y.now) c.self.inside.names.entries c.args.name n)) noted
    ∙ put-entries c.args.name c.args.kind c.args.at c.self.inside.names.entries)
