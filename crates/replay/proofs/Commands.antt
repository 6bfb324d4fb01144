-- What words leave is what their command leaves.
use Rattle.replay.proofs.Prelude.{subst, inl, inr, SeenVolume, Command, commands_are_one, RanAs, IsByCommand}
use Rattle.replay.proofs.Prelude.{IsUsageReported}

pub by_command : (vol : SeenVolume) → IsByCommand vol
by_command vol words command input out err end (inl (other, encoded, ran)) is =
    inl (subst (λ (c : Command). RanAs c input out err vol end) (commands_are_one words other command encoded is) ran)
by_command vol words command input out err end (inr (inl (none, did))) is = absurd (none command is)
by_command vol words command input out err end (inr (inr (other, encoded, did))) is = inr did

pub usage_reported : (vol : SeenVolume) → IsUsageReported vol
usage_reported vol words input out err end (inl (command, encoded, ran)) none = absurd (none command encoded)
usage_reported vol words input out err end (inr (inl (parses_none, did))) none = did
usage_reported vol words input out err end (inr (inr (command, encoded, did))) none = absurd (none command encoded)
