use Rattle.std.specs.Global.{Vec}
use Rattle.std.proofs.lemmas.List.{drop_all}
use Rattle.std.proofs.lemmas.Result.{IfOk-weaker}
use Rattle.indexmap.specs.IndexSet.{insert_all}
use Rattle.path_finder.specs.declared.candidates.Candidate.{Candidate}
use Rattle.path_finder.proofs.Kept.{inserted_next, kept_length, kept_all, distinct_map}
use Rattle.path_finder.proofs.Prelude.{◌≡◌, refl, sym, ap, subst, ◌∙◌, ◌<◌, ◌≤◌, length, map, arith, [], List, Native}
use Rattle.path_finder.proofs.Prelude.{IsDistinct, Asset, is_same_asset}
use Rattle.path_finder.proofs.Prelude.{distinct as distinct_of}
use Rattle.path_finder.proofs.candidates.distinct.Goals as goal

abbrev asset_of : Candidate → Asset
asset_of candidate = candidate.0

abbrev assets_of : List Candidate → List Asset
assets_of keys = map asset_of keys

pub loop-asset-preserved : goal.loop-asset-preserved
loop-asset-preserved c =
    let assets = c.args.assets.now in
    let below : c.loop-asset.asset-index < length assets = omega (arith, c.loop-asset-test.true) in
    inserted_next asset_of is_same_asset (insert_all is_same_asset [] assets) assets c.loop-asset.asset-index Native _
    c.loop-asset.kept.keys c.insert.new.self.keys below refl c.in_ok-insert.ensures.keys c.loop-asset.invariant

pub returns-clause-once : goal.returns-clause-once
returns-clause-once c =
    IfOk-weaker c.assets_of.result (λ (kept : Vec Asset). kept.items ≡ assets_of c.loop-asset.kept.keys)
    (λ (kept : Vec Asset). IsDistinct is_same_asset kept.items)
    (λ kept e. subst (IsDistinct is_same_asset) (sym e)
    (distinct_map asset_of is_same_asset c.loop-asset.kept.keys c.assets_of.ensures.once))
    c.assets_of.ensures.assets

pub returns-clause-distinct : goal.returns-clause-distinct
returns-clause-distinct c =
    let assets = c.args.assets.now in
    let keys = assets_of c.loop-asset.kept.keys in
    let rest = drop_all c.loop-asset.asset-index assets (omega (arith, c.loop-asset-test.false)) in
    let all : keys ≡ distinct_of assets =
    ap (insert_all is_same_asset keys) (sym rest) ∙ c.loop-asset.invariant ∙ kept_all assets in
    IfOk-weaker c.assets_of.result (λ (kept : Vec Asset). kept.items ≡ keys)
    (λ (kept : Vec Asset). kept.items ≡ distinct_of assets) (λ kept e. e ∙ all) c.assets_of.ensures.assets

pub returns-clause-few : goal.returns-clause-few
returns-clause-few c =
    let assets = c.args.assets.now in
    let keys = assets_of c.loop-asset.kept.keys in
    let rest = drop_all c.loop-asset.asset-index assets (omega (arith, c.loop-asset-test.false)) in
    let all : keys ≡ insert_all is_same_asset [] assets =
    ap (insert_all is_same_asset keys) (sym rest) ∙ c.loop-asset.invariant in
    let few = kept_length is_same_asset [] assets in
    IfOk-weaker c.assets_of.result (λ (kept : Vec Asset). kept.items ≡ keys)
    (λ (kept : Vec Asset). length kept.items ≤ length assets)
    (λ kept e.
    let sizes : length kept.items ≡ length (insert_all is_same_asset [] assets) = ap length (e ∙ all) in
    omega (arith, sizes, few))
    c.assets_of.ensures.assets
