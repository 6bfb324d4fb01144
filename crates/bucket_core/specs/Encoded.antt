-- Values that have an encoding.
use Rattle.xdr_core.specs.Xdr.{Xdr}

-- the value has an encoding
pub record IsEncoded {V : Type 0} (f : Xdr V) (v : V) : Type 0 where
  pub within : f.within v
  pub sized : f.sized v
