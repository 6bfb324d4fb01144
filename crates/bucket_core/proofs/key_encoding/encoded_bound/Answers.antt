use Rattle.bucket_core.proofs.Prelude.{IfOk-weaker}
use Rattle.bucket_core.proofs.Bounds.{cut_same_above, itself_above}
use Rattle.bucket_core.proofs.key_encoding.encoded_bound.Goals as goal

pub returns-in-None : goal.returns-in-None
returns-in-None c =
    IfOk-weaker c.encoding_of.result _ _
    (λ text is. record { bound = c.args.key.now; is = is; same = itself_above c.args.key.now })
    c.encoding_of.ensures

pub returns-in-Some : goal.returns-in-Some
returns-in-Some c =
    IfOk-weaker c.cut_encoding.result _ _
    (λ text is. record { bound = _; is = is; same = cut_same_above _ _ _ c.in-Some.ensures })
    c.cut_encoding.ensures
