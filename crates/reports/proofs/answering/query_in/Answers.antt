use Rattle.std.proofs.Common.{◌≡◌, ap, subst, ◌∙◌, ℕ, List, [], Ok}
use Rattle.path_finder.specs.Encoding.{path_query}
use Rattle.xdr_core.specs.Position.{Position}
use Rattle.reports.proofs.answering.query_in.Goals as goal

pub returns-in-Ok-end-clause-read : goal.returns-in-Ok-end-clause-read
returns-in-Ok-end-clause-read c =
    let p = c.read_path_query.new.cursor in
    let ended : p.rest ≡ [] = c.in-Ok-end.ensures in (
      p.at,
      subst (λ (q : Position). path_query.read q ≡ Ok (c.in-Ok.query, record { at = p.at; rest = [] }))
          c.new-cursor.ensures
          (c.in-Ok.ensures ∙ ap (λ (rest : List ℕ). Ok (c.in-Ok.query, record { at = p.at; rest = rest })) ended),
    )
