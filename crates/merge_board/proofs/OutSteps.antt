-- Each step keeps the rule of the done queue.
use Rattle.merge_board.proofs.Prelude as prelude
use prelude.{◌≡◌, ◌≢◌, ℕ, zero, suc, ◌+◌, ◌-◌, ◌<◌, ◌≤◌, Bool, true, false, true≢false, cond, eqb, List, [], ◌∷◌, ◌++◌}
use prelude.{map, length, set, sym, refl, ap, ◌∙◌, subst, ⊎_elim, append_assoc, length-append, arith, AllByRecursion}
use prelude.{filter, map-append, append-nil, sum_by_push, some, some-injective, some-ne-none, Pushes, Pops, Forks}
use prelude.{Merges, Learns, at_set, at_longer, at_last, first_log, new_log, spent_log, log_with, known_of}
use prelude.{pushed_count, outs_of, Accounts, FitsLog, OutsInOrder, Sent, Known, Log}
use Rattle.std.proofs.lemmas.Bool.{eq-eqb, ne_eqb}
use Rattle.std.proofs.lemmas.List.Elements.{filter-append}
use lib.ListN.{get_elem?}
use Rattle.merge_board.proofs.Lists.{every_map, every_both}
use Rattle.merge_board.proofs.Views.{each_set, each_snoc, sum_set, at_within, entire}

abbrev parts_of : Log → ℕ
parts_of v = v.parts

-- ---- the outcomes of a worker

outs_by : (worker : ℕ) (all : List Sent) (x : Sent) (b : Bool) → eqb x.worker worker ≡ b
    → outs_of worker (all ++ x ∷ []) ≡ outs_of worker all ++ map (λ (s : Sent). s.out) (cond b (x ∷ []) [])
outs_by worker all x b is =
    let test = λ (s : Sent). eqb s.worker worker in
    ap (map (λ (s : Sent). s.out)) (filter-append test all (x ∷ []))
    ∙ map-append (λ (s : Sent). s.out) (filter test all) (filter test (x ∷ []))
    ∙ ap (λ (c : Bool). outs_of worker all ++ map (λ (s : Sent). s.out) (cond c (x ∷ []) [])) is

outs_more : (worker : ℕ) (all : List Sent) (x : Sent) → x.worker ≡ worker
    → outs_of worker (all ++ x ∷ []) ≡ outs_of worker all ++ x.out ∷ []
outs_more worker all x is = outs_by worker all x true (eq-eqb x.worker worker is)

outs_same : (worker : ℕ) (all : List Sent) (x : Sent) → x.worker ≢ worker
    → outs_of worker (all ++ x ∷ []) ≡ outs_of worker all
outs_same worker all x other =
    outs_by worker all x false (ne_eqb x.worker worker other) ∙ append-nil (outs_of worker all)

-- ---- the passes of workers

one_owner : (owners : List ℕ) (a b i j : ℕ) → get_elem? owners a ≡ some i → get_elem? owners b ≡ some j → a ≡ b → i ≡ j
one_owner owners a b i j at_a at_b is = some-injective i j (sym at_a ∙ ap (get_elem? owners) is ∙ at_b)

index_of_one : (v u : Log) (pass : ℕ) → get_elem? (v ∷ []) pass ≡ some u → pass ≡ 0
index_of_one v u zero e = refl
index_of_one v u (suc pass) e = absurd (some-ne-none u (sym e))

spent_fits : (owners : List ℕ) (known : List Known) (got all : List Sent) (pass : ℕ)
    → FitsLog owners known got all pass spent_log
spent_fits owners known got all pass = record {
  collector = λ q. absurd (true≢false (sym q));
  worker = λ q. absurd (true≢false (sym q));
  idle = λ e. refl;
}

-- ---- the steps

pub begins : OutsInOrder [] (first_log ∷ [])
begins = record {
  owners = [];
  known = [];
  got = [];
  all = [];
  entire = refl;
  later = λ worker late. refl;
  ended = tt;
  pushed_in_all = refl;
  parts_in_all = refl;
  each = each_set (FitsLog [] [] [] []) (first_log ∷ []) 0 first_log (record {
    collector = λ _. (refl, refl, refl, refl);
    worker = λ q. absurd (true≢false (sym q));
    idle = λ e. refl;
  }) (λ j u other e. absurd (other (index_of_one first_log u j e)));
}

pub pushes : (n pass : ℕ) (v : Log) (x : Sent) → 0 < v.parts → v.pushes ≡ true → x.worker ≡ v.worker
    → Pushes OutsInOrder n pass v x (λ w. w ≡ record v { pushed = v.pushed ++ x.out ∷ [] })
pushes n pass v x some_part may is items views room h at =
    let w : Log = record v { pushed = v.pushed ++ x.out ∷ [] } in
    let all = h.all ++ x ∷ [] in
    let mine : FitsLog h.owners h.known h.got h.all pass v = h.each pass v at in
    let own : get_elem? h.owners v.worker ≡ some pass = (mine.worker may).0 in
    let within : v.worker < length h.owners = at_within h.owners pass v.worker own in (
      w,
      record {
        owners = h.owners;
        known = h.known;
        got = h.got;
        all = all;
        entire = ap (λ l. l ++ x ∷ []) h.entire ∙ append_assoc h.got items (x ∷ []);
        later = λ worker late. outs_same worker h.all x (λ e. omega arith) ∙ h.later worker late;
        ended = every_both (λ (k : Known). k.worker ≢ v.worker)
            (λ (k : Known). (k.worker < length h.owners) × (outs_of k.worker h.all ≡ k.pushed))
            (λ (k : Known). (k.worker < length h.owners) × (outs_of k.worker all ≡ k.pushed)) h.known
            (λ k apart old. (old.0, outs_same k.worker h.all x (λ e. apart (sym e ∙ is)) ∙ old.1))
            (mine.worker may).2 h.ended;
        pushed_in_all = (let s = sum_set pushed_count views pass v w at in let d = h.pushed_in_all in
            omega (arith, length-append v.pushed (x.out ∷ []), length-append h.all (x ∷ [])));
        parts_in_all = (let s = sum_set parts_of views pass v w at in let d = h.parts_in_all in omega arith);
        each = each_set (FitsLog h.owners h.known h.got all) views pass w (record {
          collector = mine.collector;
          worker = λ _. (
            own,
            outs_more v.worker h.all x is ∙ ap (λ l. l ++ x.out ∷ []) (mine.worker may).1,
            (mine.worker may).2,
          );
          idle = λ e. absurd (omega arith);
        }) (λ j u other e. let theirs = h.each j u e in record {
          collector = theirs.collector;
          worker = λ q. (
            (theirs.worker q).0,
            outs_same u.worker h.all x
                (λ same. other (one_owner h.owners u.worker v.worker j pass (theirs.worker q).0 own
                (sym same ∙ is))) ∙ (theirs.worker q).1,
            (theirs.worker q).2,
          );
          idle = theirs.idle;
        });
      },
      refl,
    )

pub collects : (pass : ℕ) (v : Log) → v.collects ≡ true
    → Pops OutsInOrder pass v (λ x w. w ≡ record v { got = v.got ++ x ∷ [] })
collects pass v may x items views h at =
    let w : Log = record v { got = v.got ++ x ∷ [] } in
    let got = h.got ++ x ∷ [] in
    let mine : FitsLog h.owners h.known h.got h.all pass v = h.each pass v at in
    let collector = mine.collector may in (
      w,
      record {
        owners = h.owners;
        known = h.known;
        got = got;
        all = h.all;
        entire = h.entire ∙ sym (append_assoc h.got (x ∷ []) items);
        later = h.later;
        ended = h.ended;
        pushed_in_all = (let s = sum_set pushed_count views pass v w at in let d = h.pushed_in_all in omega arith);
        parts_in_all = (let s = sum_set parts_of views pass v w at in let d = h.parts_in_all in omega arith);
        each = each_set (FitsLog h.owners h.known got h.all) views pass w (record {
          collector = λ _. (collector.0, ap (λ l. l ++ x ∷ []) collector.1, collector.2, collector.3);
          worker = mine.worker;
          idle = mine.idle;
        }) (λ j u other e. let theirs = h.each j u e in record {
          collector = λ q. absurd (other ((theirs.collector q).0 ∙ sym collector.0));
          worker = theirs.worker;
          idle = theirs.idle;
        });
      },
      refl,
    )

pub hires : (pass : ℕ) (v : Log) → v.collects ≡ true → 2 ≤ v.parts
    → Forks OutsInOrder pass v (record v { parts = v.parts - 1; made = v.made + 1 }) (new_log v.made)
hires pass v may two items views h at =
    let w : Log = record v { parts = v.parts - 1; made = v.made + 1 } in
    let mine : FitsLog h.owners h.known h.got h.all pass v = h.each pass v at in
    let collector = mine.collector may in
    let made : v.made ≡ length h.owners = collector.3 in
    let vs = set views pass w in
    let n = length vs in
    let owners = h.owners ++ n ∷ [] in
    let more : length owners ≡ length h.owners + 1 = length-append h.owners (n ∷ []) in record {
      owners = owners;
      known = h.known;
      got = h.got;
      all = h.all;
      entire = h.entire;
      later = λ worker late. h.later worker (omega arith);
      ended = every_map (λ (k : Known). (k.worker < length h.owners) × (outs_of k.worker h.all ≡ k.pushed))
          (λ (k : Known). (k.worker < length owners) × (outs_of k.worker h.all ≡ k.pushed)) h.known
          (λ k old. ((let before = old.0 in omega arith), old.1)) h.ended;
      pushed_in_all = (let s = sum_set pushed_count views pass v w at in let d = h.pushed_in_all in
          omega (arith, sum_by_push pushed_count vs (new_log v.made)));
      parts_in_all = (let s = sum_set parts_of views pass v w at in let d = h.parts_in_all in
          omega (arith, sum_by_push parts_of vs (new_log v.made)));
      each = each_snoc (FitsLog owners h.known h.got h.all) vs (new_log v.made)
          (each_set (FitsLog owners h.known h.got h.all) views pass w (record {
            collector = λ _. (collector.0, collector.1, collector.2, omega arith);
            worker = λ q. (
              at_longer h.owners (n ∷ []) v.worker pass (mine.worker q).0,
              (mine.worker q).1,
              (mine.worker q).2,
            );
            idle = λ e. absurd (omega arith);
          }) (λ j u other e. let theirs = h.each j u e in record {
            collector = λ q. absurd (other ((theirs.collector q).0 ∙ sym collector.0));
            worker = λ q. (
              at_longer h.owners (n ∷ []) u.worker j (theirs.worker q).0,
              (theirs.worker q).1,
              (theirs.worker q).2,
            );
            idle = theirs.idle;
          })) (record {
            collector = λ q. absurd (true≢false (sym q));
            worker = λ _. (
              at_last h.owners n v.made (sym made),
              h.later v.made (omega arith),
              every_map (λ (k : Known). (k.worker < length h.owners) × (outs_of k.worker h.all ≡ k.pushed))
                  (λ (k : Known). k.worker ≢ v.made) h.known (λ k old e. (let before = old.0 in omega arith)) h.ended,
            );
            idle = λ e. refl;
          });
    }

pub joins : (pass : ℕ) (v : Log) (other : ℕ) (u : Log) → v.collects ≡ true → u.pushes ≡ true
    → Merges OutsInOrder pass v other u (log_with v u) spent_log
joins pass v other u may theirs items views h at two at' =
    let both : Log = log_with v u in
    let known = known_of u ∷ h.known in
    let mine : FitsLog h.owners h.known h.got h.all pass v = h.each pass v at in
    let collector = mine.collector may in
    let vs = set views pass both in
    let was : get_elem? views other ≡ some u = ⊎_elim (λ x. absurd (two x.0)) (λ x. x.1)
    (at_set views pass other both u at') in
    let fits : FitsLog h.owners h.known h.got h.all other u = h.each other u was in
    let own = (fits.worker theirs).0 in record {
      owners = h.owners;
      known = known;
      got = h.got;
      all = h.all;
      entire = h.entire;
      later = h.later;
      ended = ((at_within h.owners other u.worker own, (fits.worker theirs).1), h.ended);
      pushed_in_all = (let s = sum_set pushed_count views pass v both at in
          let r = sum_set pushed_count vs other u spent_log at' in let d = h.pushed_in_all in omega arith);
      parts_in_all = (let s = sum_set parts_of views pass v both at in
          let r = sum_set parts_of vs other u spent_log at' in let d = h.parts_in_all in omega arith);
      each = each_set (FitsLog h.owners known h.got h.all) vs other spent_log
          (spent_fits h.owners known h.got h.all other)
          (λ j w apart e. each_set (λ i (y : Log). i ≢ other → FitsLog h.owners known h.got h.all i y) views pass both
          (λ _. record {
            collector = λ _. (collector.0, collector.1, ap (λ l. known_of u ∷ l) collector.2, collector.3);
            worker = λ q. (
              (mine.worker q).0,
              (mine.worker q).1,
              (
                (λ same. two (one_owner h.owners u.worker v.worker other pass own (mine.worker q).0 same)),
                (mine.worker q).2,
              ),
            );
            idle = λ none. (let a : pushed_count v ≡ 0 = mine.idle (omega arith) in
                let b : pushed_count u ≡ 0 = fits.idle (omega arith) in omega arith);
          })
          (λ i y away at_i not_other. let it = h.each i y at_i in record {
            collector = λ q. absurd (away ((it.collector q).0 ∙ sym collector.0));
            worker = λ q. (
              (it.worker q).0,
              (it.worker q).1,
              (
                (λ same. not_other (one_owner h.owners y.worker u.worker i other (it.worker q).0 own (sym same))),
                (it.worker q).2,
              ),
            );
            idle = it.idle;
          }) j w e apart);
    }

-- ---- what a pass learns

pub accounts : (pass : ℕ) (v : Log) → v.collects ≡ true → Learns OutsInOrder pass v (Accounts v)
accounts pass v may items views h at =
    let collector = (h.each pass v at).collector may in
    let all : h.all ≡ v.got ++ items = h.entire ∙ ap (λ l. l ++ items) (sym collector.1) in record {
      ended = subst (AllByRecursion (λ (k : Known). outs_of k.worker (v.got ++ items) ≡ k.pushed)) (sym collector.2)
          (every_map (λ (k : Known). (k.worker < length h.owners) × (outs_of k.worker h.all ≡ k.pushed))
          (λ (k : Known). outs_of k.worker (v.got ++ items) ≡ k.pushed) h.known
          (λ k old. ap (outs_of k.worker) (sym all) ∙ old.1) h.ended);
      entire = λ all_parts.
          (let mine = entire pushed_count parts_of views pass v at (h.parts_in_all ∙ sym all_parts)
          (λ j u e. (h.each j u e).idle) in
          let d = h.pushed_in_all in let long = ap length all in omega (arith, length-append v.got items));
    }
