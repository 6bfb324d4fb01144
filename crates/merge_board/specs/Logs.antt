-- What a pass of the done queue knows, and how a step changes that.
use Rattle.std.specs.Prelude.{ℕ, ◌+◌, true, false, [], ◌∷◌, length}
use Rattle.merge_board.specs.declared.log.Known.{Known}
use Rattle.merge_board.specs.declared.log.Log.{Log}

-- all parts, and the right to collect
abbrev pub first_log : Log
first_log = record {
  parts = 16;
  collects = true;
  pushes = false;
  made = 0;
  worker = 0;
  pushed = [];
  absorbed = 0;
  got = [];
  known = [];
}

-- that of a worker with this number, before it pushed anything
abbrev pub new_log : ℕ → Log
new_log worker = record first_log { parts = 1; collects = false; pushes = true; worker = worker }

-- that of a pass that was taken in
abbrev pub spent_log : Log
spent_log = record first_log { parts = 0; collects = false }

-- how many outcomes the pass, and those that it took in, have pushed
abbrev pub pushed_count : Log → ℕ
pushed_count v = length v.pushed + v.absorbed

abbrev pub known_of : Log → Known
known_of v = record { worker = v.worker; pushed = v.pushed }

abbrev pub log_with : Log → Log → Log
log_with v u = record v {
  parts = v.parts + u.parts;
  absorbed = v.absorbed + pushed_count u;
  known = known_of u ∷ v.known;
}
