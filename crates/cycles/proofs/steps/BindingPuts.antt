-- All rules for all bindings in memory: what the walk over a rule's variables and, for each of them, over the entities puts.
use Prim.Native.Nat.{ℕ, zero, suc, ◌+◌, ◌≤◌, ◌<◌, ◌%◌, ◌*◌}
use native.Mathlib.Numerals.{add-one}
use native.Mathlib.Omega.{arith}
use mathlib.Core.Path.{◌≡◌, refl, sym, ap, ◌∙◌}
use mathlib.Core.Bool.{Bool, true, false, true≢false, cond, ◌||◌}
use mathlib.Core.List.{List, [], ◌∷◌, ◌++◌}
use mathlib.Core.Option.{some}
use lib.Dec.{T, leb, ltb, eqb}
use lib.Ieee.Fits.{and_r}
use lib.ListN.{length, get_or, get_elem?, drop, set}
use lib.Seq.{get_or-set_same, get_or-set_other}
use borrow.Author.Tests.{leb-true, leb-false, ltb-true, ltb-false, eqb-true, eqb-false}
use Rattle.values.specs.definitions.Bytes.{same_bytes}
use Rattle.text.specs.definitions.Syntax.{Entity}
use Rattle.text.proofs.laws.ListLaws.{some_injective, none_some}
use Rattle.checking.specs.definitions.Scope.{Variable, variables}
use Rattle.checking.specs.inner_contracts.Directory.{rule_row}
use Rattle.checking.specs.inner_contracts.Resolution.{scope_row}
use Rattle.checking.proofs.laws.DirectoryLaws.{number_inside}
use Rattle.cycles.specs.declared.bindings.Range.{Range}
use Rattle.cycles.specs.declared.evaluate.Binding.{Binding}
use Rattle.cycles.specs.definitions.Bindings.{bindings}
use Rattle.cycles.specs.inner_contracts.Evaluation.{bound, puts, RulePuts}
use Rattle.cycles.specs.inner_contracts.AllRules.{Gives, complete, candidate, Ranged, EntityAdded, BindingsPut}
use Rattle.cycles.specs.inner_contracts.GuardKinds.{Needless, no_candidate, silent, Marked, MarksSet}
use Rattle.cycles.proofs.steps.EvaluationLaws.{puts_append}
use Rattle.cycles.proofs.steps.ResolvedLaws.{rule_puts_binding}
use Rattle.cycles.proofs.steps.BindingWrites.{
  Chosen,
  file,
  writes_after,
  writes_from,
  few,
  prioritized,
  variable_count,
  entity_count,
  face_below,
  next_variable,
  candidate_is,
  with_entity,
  complete_writes,
  first_writes,
  last_writes,
  skipped_writes,
  taken_writes,
}

-- ---- tests

module _ (scopes : List ℕ) (k level : ℕ) where
  pub incomplete_few : {t : Bool} → t ≡ complete scopes k level → t ≡ false → level < 3
  incomplete_few e f = go (leb 3 level) refl (sym e ∙ f)
    where
      go : (t : Bool) → leb 3 level ≡ t → (t || eqb (get_or scopes (scope_row k) 0) level) ≡ false → level < 3
      go true e f = let z : ◌≡◌ {A = ℕ} 0 1 = cc in absurd (omega arith)
      go false e f = leb-false 3 level e

  pub incomplete_more : {t : Bool} → t ≡ complete scopes k level → t ≡ false → get_or scopes (scope_row k) 0 ≡ level → ⊥
  incomplete_more e f n = go (leb 3 level) (sym e ∙ f)
    where
      go : (t : Bool) → (t || eqb (get_or scopes (scope_row k) 0) level) ≡ false → ⊥
      go true h = let z : ◌≡◌ {A = ℕ} 0 1 = cc in omega arith
      go false h = absurd (eqb-false (get_or scopes (scope_row k) 0) level h n)

-- ---- ranges of candidates

module _ {d flags : List ℕ} {face : ℕ} where
  pub range_begins : Ranged d flags 0 face 0 0
  range_begins = record { most = omega arith; among = λ e l c. absurd (omega arith) }

  -- one entity more
  module _ {e first end : ℕ} (r : Ranged d flags e face first end) {t : Bool} (is : t ≡ candidate d flags face e) where
    pub range_skips : t ≡ false → Ranged d flags (e + 1) face first end
    range_skips f = record { most = omega (arith, r.most); among = λ x l c. go x l c (ltb x e) refl }
      where
        go : (x : ℕ) → x < e + 1 → candidate d flags face x ≡ true → (b : Bool) → ltb x e ≡ b → (first ≤ x) × (x < end)
        go x l c true q = r.among x (ltb-true x e q) c
        go x l c false q =
            let h : e ≡ x = omega (arith, ltb-false x e q) in
            absurd (true≢false (sym c ∙ ap (candidate d flags face) (sym h) ∙ sym is ∙ f))

    pub range_takes : {start : ℕ} → start ≤ e → (end ≡ 0 → start ≡ e) → ((end ≡ 0 → ⊥) → start ≡ first) → Ranged d flags (e + 1) face start (e + 1)
    range_takes {start} s y n = record { most = omega arith; among = λ x l c. go x l c (ltb x e) refl }
      where
        go : (x : ℕ) → x < e + 1 → candidate d flags face x ≡ true → (b : Bool) → ltb x e ≡ b → (start ≤ x) × (x < e + 1)
        go x l c true q =
            let p = r.among x (ltb-true x e q) c in
            (omega (arith, p.0, p.1, n (λ z. omega (arith, p.1))), l)
        go x l c false q = (omega (arith, ltb-false x e q), l)

-- the ranges of the interfaces before number `face`
abbrev pub RangesBefore : List ℕ → List ℕ → ℕ → List Range → ℕ → Type 0
RangesBefore d flags n ranges face =
    (f : ℕ) (other : Range) → f < face → Ranged d flags n f (get_or ranges f other).first (get_or ranges f other).end

pub range_put : {d flags : List ℕ} {n face : ℕ} (ranges : List Range) {range : Range} → RangesBefore d flags n ranges face → face < length ranges
    → Ranged d flags n face range.first range.end → RangesBefore d flags n (set ranges face range) (face + 1)
range_put {d} {flags} {n} {face} ranges {range} before room is f other h = go (ltb f face) refl
  where
    go : (t : Bool) → ltb f face ≡ t
        → Ranged d flags n f (get_or (set ranges face range) f other).first (get_or (set ranges face range) f other).end
    go true q =
        let l = ltb-true f face q in
        rw (get_or-set_other ranges face f range other (λ z. omega arith)) (before f other l)
    go false q =
        let e : face ≡ f = omega (arith, ltb-false f face q) in
        rw (← e, get_or-set_same ranges face range other room) is

-- ---- one more entity

pub front_at : (es rest : List ℕ) (v : ℕ) → v < length es → get_elem? (es ++ rest) v ≡ get_elem? es v
front_at [] rest v h = absurd (omega arith)
front_at (e ∷ es) rest zero h = refl
front_at (e ∷ es) rest (suc v) h = front_at es rest v (omega arith)

module _ {b : Binding} {level e : ℕ} (byte : e < 256) where
  pub added_first : level ≡ 0 → EntityAdded b level e (record { entities = e })
  unfolding bound
  added_first l = record { gives = go; keeps = λ v h m. absurd (omega arith) }
    where
      go : (es : List ℕ) → length es ≡ level → level < 3 → Gives b es → Gives (record { entities = e }) (es ++ e ∷ [])
      go [] s m g zero x h = omega (arith, some_injective h)
      go [] s m g (suc v) x h = absurd (none_some h)
      go (a ∷ es) s m g v x h = absurd (omega arith)

  pub added_second : level ≡ 1 → EntityAdded b level e (record { entities = b.entities % 256 + 256 * e })
  unfolding bound
  added_second l = record { gives = go; keeps = same }
    where
      same : (v : ℕ) → v < level → level < 3 → bound (record { entities = b.entities % 256 + 256 * e }) (32 + v) ≡ bound b (32 + v)
      same zero h m = omega arith
      same (suc v) h m = absurd (omega arith)

      go : (es : List ℕ) → length es ≡ level → level < 3 → Gives b es → Gives (record { entities = b.entities % 256 + 256 * e }) (es ++ e ∷ [])
      go [] s m g v x h = absurd (omega arith)
      go (a ∷ []) s m g zero x h = omega (arith, g 0 x h)
      go (a ∷ []) s m g (suc zero) x h = omega (arith, some_injective h)
      go (a ∷ []) s m g (suc (suc v)) x h = absurd (none_some h)
      go (a ∷ c ∷ es) s m g v x h = absurd (omega arith)

  pub added_third : (level ≡ 0 → ⊥) → (level ≡ 1 → ⊥) → EntityAdded b level e (record { entities = b.entities % 65536 + 65536 * e })
  unfolding bound
  added_third n o = record { gives = go; keeps = same }
    where
      same : (v : ℕ) → v < level → level < 3 → bound (record { entities = b.entities % 65536 + 65536 * e }) (32 + v) ≡ bound b (32 + v)
      same zero h m = omega arith
      same (suc zero) h m = omega arith
      same (suc (suc v)) h m = absurd (omega arith)

      go : (es : List ℕ) → length es ≡ level → level < 3 → Gives b es → Gives (record { entities = b.entities % 65536 + 65536 * e }) (es ++ e ∷ [])
      go [] s m g v x h = absurd (n (sym s))
      go (a ∷ []) s m g v x h = absurd (o (sym s))
      go (a ∷ c ∷ []) s m g zero x h = omega (arith, g 0 x h)
      go (a ∷ c ∷ []) s m g (suc zero) x h = omega (arith, g 1 x h)
      go (a ∷ c ∷ []) s m g (suc (suc zero)) x h = omega (arith, some_injective h)
      go (a ∷ c ∷ []) s m g (suc (suc (suc v))) x h = absurd (none_some h)
      go (a ∷ c ∷ i ∷ es) s m g v x h = absurd (omega arith)

-- ---- what one rule puts

module _ {classes values d refs scopes flags cells previous_flags previous_cells : List ℕ} {k level : ℕ} {b : Binding} where
  put_in : {area after : List ℕ} → BindingsPut classes values d refs scopes flags cells previous_flags previous_cells k level b area after
      → (c : Chosen classes values d refs scopes flags cells previous_flags previous_cells k level b) → after ≡ puts area (writes_after c)
  put_in p c =
      p.writes c.text c.offsets c.lengths c.given c.rule c.stands c.entities c.size c.most c.gives c.binds

  pub in_each : {area after : List ℕ}
      → ((c : Chosen classes values d refs scopes flags cells previous_flags previous_cells k level b) → after ≡ puts area (writes_after c))
      → BindingsPut classes values d refs scopes flags cells previous_flags previous_cells k level b area after
  in_each h = record {
    writes = λ text offsets lengths g r s es n m gi bi. h (record {
      text = text;
      offsets = offsets;
      lengths = lengths;
      given = g;
      rule = r;
      stands = s;
      entities = es;
      size = n;
      most = m;
      gives = gi;
      binds = bi;
    });
  }

  -- each variable has its entity
  pub bindings_complete : {t : Bool} → t ≡ complete scopes k level → t ≡ true
      → {start : ℕ} → start ≡ get_or d (rule_row k) 0
      → {area after : List ℕ} → RulePuts classes values refs b flags cells previous_flags previous_cells (start + 1) area after
      → BindingsPut classes values d refs scopes flags cells previous_flags previous_cells k level b area after
  bindings_complete q y n {area} {after} p = in_each (λ c. one c (all_bound c))
    where
      all_bound : (c : Chosen classes values d refs scopes flags cells previous_flags previous_cells k level b) → length (variables c.rule) ≤ level
      all_bound c = go (leb 3 level) refl (sym q ∙ y)
        where
          go : (t : Bool) → leb 3 level ≡ t → (t || eqb (get_or scopes (scope_row k) 0) level) ≡ true → length (variables c.rule) ≤ level
          go true e h = omega (arith, leb-true 3 level e, few c)
          go false e h = omega (arith, eqb-true (get_or scopes (scope_row k) 0) level h, variable_count c)

      one : (c : Chosen classes values d refs scopes flags cells previous_flags previous_cells k level b) → length (variables c.rule) ≤ level
          → after ≡ puts area (writes_after c)
      one c h =
          let s : length c.entities ≡ length (variables c.rule) = omega (arith, c.size, c.most) in
          rule_puts_binding values c.given.checked.bench c.given.checked.few c.given.checked.valued c.given.references
          (c.given.checked.bench.directory.rule k c.rule c.stands) c.entities c.binds s (few c) b c.gives
          c.given.now_stored c.given.previous_stored (rw n at p) (prioritized c)
          ∙ ap (puts area) (sym (complete_writes c h))

-- ---- marks of candidates

module _ {d flags : List ℕ} {face first e : ℕ} (marks : List ℕ) (before : MarksSet d flags face first e marks) (room : e < length marks)
    {t : Bool} (is : t ≡ candidate d flags face e) {v : ℕ} (mark : v ≡ cond t 1 0) where
  pub marks_more : MarksSet d flags face first (e + 1) (set marks e v)
  marks_more = record { sets = λ x l h. go x l h (ltb x e) refl }
    where
      go : (x : ℕ) → first ≤ x → x < e + 1 → (b : Bool) → ltb x e ≡ b → get_or (set marks e v) x 0 ≡ cond (candidate d flags face x) 1 0
      go x l h true q = let below = ltb-true x e q in get_or-set_other marks e x v 0 (λ z. omega arith) ∙ before.sets x l below
      go x l h false q =
          let same : e ≡ x = omega (arith, ltb-false x e q) in
          rw (← same) (get_or-set_same marks e v 0 room ∙ mark ∙ ap (λ t. cond t 1 0) is)

module _ {classes values d refs scopes flags cells previous_flags previous_cells : List ℕ} {k level : ℕ} {b : Binding} {face first end : ℕ}
    {marks : List ℕ} where
  pub marks_mean : MarksSet d flags face first end marks
      → Marked classes values d refs scopes flags cells previous_flags previous_cells k level b face first end marks
  marks_mean m = record {
    unmarked = λ e l h z. no_candidate (not_one (candidate d flags face e) (sym (m.sets e l h) ∙ z));
    marked = λ e l h n. one (candidate d flags face e) (λ z. n (m.sets e l h ∙ z));
  }
    where
      not_one : (t : Bool) → ◌≡◌ {A = ℕ} (cond t 1 0) 0 → t ≡ false
      not_one true z = absurd (omega arith)
      not_one false z = refl

      one : (t : Bool) → (◌≡◌ {A = ℕ} (cond t 1 0) 0 → ⊥) → t ≡ true
      one true n = refl
      one false n = absurd (n refl)

-- the entities before number e have had their turns for the next variable: the writes of the others are left
pub record TurnsLeft (classes values d refs scopes flags cells previous_flags previous_cells : List ℕ) (k level : ℕ) (b : Binding)
    (area : List ℕ) (e : ℕ) (after : List ℕ) : Type 0 where
  pub left : (c : Chosen classes values d refs scopes flags cells previous_flags previous_cells k level b)
      (v : Variable) → get_elem? (variables c.rule) level ≡ some v → puts after (writes_from c v e) ≡ puts area (writes_after c)

-- where no candidate stands, nothing is written
module _ {classes values d refs scopes flags cells previous_flags previous_cells : List ℕ} {k level : ℕ} {b : Binding}
    (c : Chosen classes values d refs scopes flags cells previous_flags previous_cells k level b)
    {v : Variable} (declared : get_elem? (variables c.rule) level ≡ some v) where
  writes_between : (m e : ℕ) → ((x : ℕ) → e ≤ x → x < e + m → x < get_or d 1 0 → candidate d flags (get_or scopes (scope_row k + 1 + level) 0) x ≡ false)
      → writes_from c v e ≡ writes_from c v (e + m)
  writes_between zero e none = let h : e ≡ e + zero = omega arith in ap (writes_from c v) h
  writes_between (suc m) e none =
      go (ltb e (get_or d 1 0)) refl (writes_between m (e + 1) (λ x l u i. none x (omega arith) (omega arith) i))
    where
      go : (t : Bool) → ltb e (get_or d 1 0) ≡ t → writes_from c v (e + 1) ≡ writes_from c v (e + 1 + m) → writes_from c v e ≡ writes_from c v (e + suc m)
      go true q later =
          let (x, g) = number_inside (file c).entities e (omega (arith, entity_count c, ltb-true e (get_or d 1 0) q)) in
          let h : e + 1 + m ≡ e + suc m = omega arith in
          skipped_writes c declared e g (none e (omega arith) (omega arith) (ltb-true e (get_or d 1 0) q))
          ∙ later ∙ ap (writes_from c v) h
      go false q later =
          last_writes c declared (ltb-false e (get_or d 1 0) q) ∙ sym (last_writes c declared {e = e + suc m} (omega (arith, ltb-false e (get_or d 1 0) q)))

module _ {classes values d refs scopes flags cells previous_flags previous_cells : List ℕ} {k level : ℕ} {b : Binding} {face : ℕ}
    (face_is : face ≡ get_or scopes (scope_row k + 1 + level) 0) where
  -- no checked bench has so many interfaces
  pub bindings_nowhere : 16 ≤ face → {t : Bool} → t ≡ complete scopes k level → t ≡ false
      → {area after : List ℕ} → BindingsPut classes values d refs scopes flags cells previous_flags previous_cells k level b area after
  bindings_nowhere l y n = in_each (λ c.
      let (v, h) = next_variable c (incomplete_more scopes k level y n) in
      absurd (omega (arith, face_is, face_below c h)))

module _ {classes values d refs scopes flags cells previous_flags previous_cells : List ℕ} {k level : ℕ} {b : Binding} {face first end : ℕ}
    (ranged : Ranged d flags (get_or d 1 0) face first end) (face_is : face ≡ get_or scopes (scope_row k + 1 + level) 0) where
  range_in : (c : Chosen classes values d refs scopes flags cells previous_flags previous_cells k level b) {v : Variable}
      → get_elem? (variables c.rule) level ≡ some v → Ranged d flags (get_or d 1 0) (get_or scopes (scope_row k + 1 + level) 0) first end
  range_in c h = rw (← face_is) ranged

  module _ (c : Chosen classes values d refs scopes flags cells previous_flags previous_cells k level b) {v : Variable}
      (h : get_elem? (variables c.rule) level ≡ some v) where
    outside : (x : ℕ) → x < get_or d 1 0 → ((first ≤ x) × (x < end) → ⊥)
        → candidate d flags (get_or scopes (scope_row k + 1 + level) 0) x ≡ false
    outside x i n = go (candidate d flags (get_or scopes (scope_row k + 1 + level) 0) x) refl
      where
        go : (t : Bool) → candidate d flags (get_or scopes (scope_row k + 1 + level) 0) x ≡ t → t ≡ false
        go true q = absurd (n ((range_in c h).among x i q))
        go false q = refl

  -- no checked bench has so many entities
  pub bindings_impossible : 32 < end → {t : Bool} → t ≡ complete scopes k level → t ≡ false
      → {area after : List ℕ} → BindingsPut classes values d refs scopes flags cells previous_flags previous_cells k level b area after
  bindings_impossible l y n = in_each (λ c.
      let (v, h) = next_variable c (incomplete_more scopes k level y n) in
      absurd (omega (arith, (range_in c h).most, entity_count c, c.given.checked.few.entities)))

  module _ {area : List ℕ} where
    pub turns_begin : TurnsLeft classes values d refs scopes flags cells previous_flags previous_cells k level b area first area
    turns_begin = record {
      left = λ c v h.
          let z : 0 + first ≡ first = omega arith in
          ap (puts area) (sym (first_writes c h ∙ writes_between c h first 0 (λ x l u i. outside c h x i (λ p. omega (arith, p.0)))
          ∙ ap (writes_from c v) z));
    }

    module _ {e : ℕ} {after : List ℕ}
        (turns : TurnsLeft classes values d refs scopes flags cells previous_flags previous_cells k level b area e after) where
      inside : e < end → (c : Chosen classes values d refs scopes flags cells previous_flags previous_cells k level b) {v : Variable}
          → get_elem? (variables c.rule) level ≡ some v → (x : Entity) × (get_elem? (file c).entities e ≡ some x)
      inside l c h = number_inside (file c).entities e (omega (arith, entity_count c, (range_in c h).most))

      -- an entity that is not to be chosen
      pub turn_skips : e < end → {t : Bool} → t ≡ candidate d flags face e → t ≡ false
          → TurnsLeft classes values d refs scopes flags cells previous_flags previous_cells k level b area (e + 1) after
      turn_skips l y n = record {
        left = λ c v h.
            let (x, g) = inside l c h in
            ap (puts after) (sym (skipped_writes c h e g (rw face_is at (sym y ∙ n)))) ∙ turns.left c v h;
      }

      pub turn_takes : e < end → {t : Bool} → t ≡ candidate d flags face e → t ≡ true → level < 3
          → {r : Binding} {next : List ℕ} → EntityAdded b level e r
          → BindingsPut classes values d refs scopes flags cells previous_flags previous_cells k (level + 1) r after next
          → TurnsLeft classes values d refs scopes flags cells previous_flags previous_cells k level b area (e + 1) next
      turn_takes l y n m {r} {next} a p = record {
        left = λ c v h.
            let (x, g) = inside l c h in
            one c v h x g (rw face_is at (sym y ∙ n));
      }
        where
          one : (c : Chosen classes values d refs scopes flags cells previous_flags previous_cells k level b) (v : Variable)
              → (h : get_elem? (variables c.rule) level ≡ some v) (x : Entity) (g : get_elem? (file c).entities e ≡ some x)
              → candidate d flags (get_or scopes (scope_row k + 1 + level) 0) e ≡ true
              → puts next (writes_from c v (e + 1)) ≡ puts area (writes_after c)
          one c v h x g q =
              let t : T (same_bytes x.interface.bytes v.interface.bytes) =
              and_r (c.given.now.present e) (same_bytes x.interface.bytes v.interface.bytes) (rw (candidate_is c h e g, q) tt) in
              ap (λ area. puts area (writes_from c v (e + 1))) (put_in p (with_entity c h e g a m t))
              ∙ sym (puts_append after (writes_after (with_entity c h e g a m t)) (writes_from c v (e + 1)))
              ∙ ap (puts after) (sym (taken_writes c h e g q (bindings (file c) c.given.now (drop (level + 1) (variables c.rule)))
              (ap (λ n. bindings (file c) c.given.now (drop n (variables c.rule))) (add-one level))))
              ∙ turns.left c v h

      -- an entity that needs no turn
      pub turn_saved : e < end → level < 3 → {r : Binding} → EntityAdded b level e r
          → Needless classes values d refs scopes flags cells previous_flags previous_cells k level b face e
          → TurnsLeft classes values d refs scopes flags cells previous_flags previous_cells k level b area (e + 1) after
      turn_saved l m a (no_candidate n) = turn_skips l refl n
      turn_saved l m {r} a (silent s) = go (candidate d flags face e) refl
        where
          go : (t : Bool) → candidate d flags face e ≡ t
              → TurnsLeft classes values d refs scopes flags cells previous_flags previous_cells k level b area (e + 1) after
          go true q = turn_takes l refl q m a (s r a after)
          go false q = turn_skips l refl q

      pub turns_end : {t : Bool} → t ≡ complete scopes k level → t ≡ false → end ≤ e
          → BindingsPut classes values d refs scopes flags cells previous_flags previous_cells k level b area after
      unfolding puts
      turns_end y n l = in_each (λ c.
          let (v, h) = next_variable c (incomplete_more scopes k level y n) in
          let last = last_writes c h {e = e + get_or d 1 0} (omega arith) in
          ap (puts after) (sym (writes_between c h (get_or d 1 0) e (λ x from u i. outside c h x i (λ p. omega (arith, p.1))) ∙ last)) ∙ turns.left c v h)

-- what a loop that finds a range needs
pub ruleset range_turns = (range_begins, range_skips, range_takes)

-- what one more entity of a binding needs
pub ruleset entity_added = (added_first, added_second, added_third)
