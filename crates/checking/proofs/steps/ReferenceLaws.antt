-- What the names in a rule refer to, by numbers: from what the token table and the directory say of a name and of the tokens around it.
use Prim.Native.Nat.{ℕ, ◌+◌, ◌*◌, ◌-◌, ◌/◌, ◌≤◌, ◌<◌}
use native.Mathlib.Omega.{arith}
use mathlib.Core.Path.{◌≡◌, refl, sym, ap, ap₂, ◌∙◌}
use mathlib.Core.Bool.{Bool, true, false, ◌&&◌}
use mathlib.Core.List.{List, [], ◌∷◌, map}
use mathlib.Core.Option.{Option, none, some}
use Rattle.std.specs.Prelude as code
use Rattle.std.specs.Prelude.{unwrap_or}
use mathlib.Core.Logic.{◌⊎◌, inl, inr}
use lib.Dec.{eqb, ltb}
use lib.ListN.{length, get_or, get_elem?}
use borrow.Author.Tests.{eqb-true, eq-eqb, ltb-true, ltb-false}
use Rattle.values.specs.definitions.Bytes.{same_bytes}
use Rattle.text.specs.definitions.Tokens.{EVENT, ACTION, FROM, WITH, ON, COLON, DOT, END}
use Rattle.text.specs.definitions.Syntax.{Entity}
use Rattle.text.specs.inner_contracts.Walks.{Steps}
use Rattle.checking.specs.inner_contracts.ClassSearch.{FirstOf}
use Rattle.checking.specs.definitions.Scope.{Indexed, here_or_later, look_up, entity_named, Variable, variables, variable_named, Scope, scope_of}
use Rattle.checking.specs.inner_contracts.Directory.{name_in, entity_number, member_number}
use Rattle.checking.specs.inner_contracts.DirectoryReads.{NumberOf, FewMembers}
use Rattle.checking.specs.inner_contracts.RuleParts.{RuleWorld, world_scope, Meant}
use Rattle.checking.specs.inner_contracts.Resolution.{
  NO_REFERENCE,
  reference_by,
  reference,
  member_meant,
  Within,
  Owned,
  dotted,
  sourced,
  called,
  filtered,
  declared,
}
use Rattle.checking.specs.inner_contracts.Resolving.{alike_or, reference_alike, VariableReference, Referred, OwnerOf, MemberOf, RowResolved}
use Rattle.checking.proofs.steps.RuleNames.{names_from, names_over, names_end, names_colon, names_other}
use Rattle.checking.proofs.steps.MeaningLaws.{variable_row, world_variables, entity_here, entity_missing}

-- ---- a variable by its name

module _ (text offsets lengths : List ℕ) (i : ℕ) where
  alike_above : (k : ℕ) (ns : List ℕ) → 255 ≤ k → 255 ≤ reference_alike text offsets lengths i k ns
  unfolding reference_alike alike_or
  alike_above k [] h = omega arith
  alike_above k (n ∷ ns) h = go (same_bytes (name_in text offsets lengths i) (name_in text offsets lengths n)) (alike_above (k + 1) ns (omega arith))
    where
      go : (b : Bool) → 255 ≤ reference_alike text offsets lengths i (k + 1) ns → 255 ≤ alike_or b k (reference_alike text offsets lengths i (k + 1) ns)
      go true l = h
      go false l = l

  unfoldable by_number : ℕ → Option (Indexed Variable) → ℕ
  by_number k none = NO_REFERENCE
  by_number k (some v) = k + v.number

  -- the number found is that of the variable
  alike_number : (k : ℕ) (ns : List ℕ)
      → reference_alike text offsets lengths i k ns ≡ by_number k (variable_named (map (variable_row text offsets lengths) ns) (name_in text offsets lengths i))
  unfolding reference_alike alike_or by_number variable_named look_up here_or_later
  alike_number k [] = refl
  alike_number k (n ∷ ns) =
      go (same_bytes (name_in text offsets lengths i) (name_in text offsets lengths n))
      (variable_named (map (variable_row text offsets lengths) ns) (name_in text offsets lengths i)) (alike_number (k + 1) ns)
    where
      go : (b : Bool) (o : Option (Indexed Variable)) → reference_alike text offsets lengths i (k + 1) ns ≡ by_number (k + 1) o
          → alike_or b k (reference_alike text offsets lengths i (k + 1) ns) ≡ by_number k (here_or_later b (variable_row text offsets lengths n) o)
      go true o e = omega arith
      go false none e = e
      go false (some f) e = e ∙ omega arith

module _ (text classes offsets lengths : List ℕ) (start i : ℕ) where
  -- what is left, from token number n on, gives the same as all
  pub record Referring (n k : ℕ) : Type 0 where
    pub few : k ≤ 255
    pub same : reference_alike text offsets lengths i k (names_from classes n) ≡ reference_alike text offsets lengths i 32 (names_from classes start)

module _ {text classes offsets lengths : List ℕ} {start i : ℕ} where
  pub referring_all : Referring text classes offsets lengths start i start 32
  referring_all = record { few = omega arith; same = refl }

  module _ {n k : ℕ} (s : Referring text classes offsets lengths start i n k) where
    no_more : names_from classes n ≡ [] → VariableReference text classes offsets lengths start i 255
    unfolding reference_alike
    no_more e = record {
      within = omega arith;
      is = λ h. sym (ap (reference_alike text offsets lengths i k) e) ∙ s.same;
    }

    pub referring_over : length classes ≤ n → VariableReference text classes offsets lengths start i 255
    referring_over h = no_more (names_over classes n (omega arith))

    pub referring_full : 255 ≤ k → VariableReference text classes offsets lengths start i 255
    referring_full h = record {
      within = omega arith;
      is = λ l. let a = alike_above text offsets lengths i k (names_from classes n) h in omega (arith, s.same);
    }

    module _ {class : ℕ} (e : class ≡ get_or classes (n + 1) 0) where
      pub referring_end : class ≡ END → VariableReference text classes offsets lengths start i 255
      referring_end q = no_more (names_end classes n e q)

      module _ (w : class ≡ END → ⊥) {r : Bool}
          (t : r ≡ (eqb class COLON && same_bytes (name_in text offsets lengths i) (name_in text offsets lengths n))) where
        pub referring_here : r ≡ true → VariableReference text classes offsets lengths start i k
        unfolding reference_alike alike_or
        referring_here h = go (eqb class COLON) refl (same_bytes (name_in text offsets lengths i) (name_in text offsets lengths n)) refl (sym t ∙ h)
          where
            go : (x : Bool) → eqb class COLON ≡ x → (y : Bool) → same_bytes (name_in text offsets lengths i) (name_in text offsets lengths n) ≡ y
                → x && y ≡ true → VariableReference text classes offsets lengths start i k
            go true p true q z =
                let here = ap (reference_alike text offsets lengths i k) (names_colon classes n e (eqb-true class COLON p)) in
                record { within = omega (arith, s.few); is = λ l. sym (here ∙ rw q) ∙ s.same }
            go true p false q z = let v : ◌≡◌ {A = ℕ} 0 1 = cc in absurd (omega arith)
            go false p y q z = let v : ◌≡◌ {A = ℕ} 0 1 = cc in absurd (omega arith)

        pub referring_other : (class ≡ COLON → ⊥) → Referring text classes offsets lengths start i (n + 1) k
        referring_other p = record {
          few = s.few;
          same = sym (ap (reference_alike text offsets lengths i k) (names_other classes n e w p)) ∙ s.same;
        }

        pub referring_on : k < 255 → r ≡ false → class ≡ COLON → Referring text classes offsets lengths start i (n + 1) (k + 1)
        unfolding reference_alike alike_or
        referring_on l h p = go (same_bytes (name_in text offsets lengths i) (name_in text offsets lengths n)) refl
            ((rw (eq-eqb class COLON p) at t))
          where
            go : (y : Bool) → same_bytes (name_in text offsets lengths i) (name_in text offsets lengths n) ≡ y
                → r ≡ (true && same_bytes (name_in text offsets lengths i) (name_in text offsets lengths n))
                → Referring text classes offsets lengths start i (n + 1) (k + 1)
            go true q z = let v : true ≡ false = sym q ∙ sym z ∙ h in let u : ◌≡◌ {A = ℕ} 0 1 = cc in absurd (omega arith)
            go false q z =
                let here = ap (reference_alike text offsets lengths i k) (names_colon classes n e p) in
                record { few = omega arith; same = sym (here ∙ rw q) ∙ s.same }

-- ---- what a name refers to

module _ (s : Scope) (n : List ℕ) {o : Option (Indexed Entity)} {v : Option (Indexed Variable)} (p : entity_named s.file n ≡ o)
    (q : variable_named s.variables n ≡ v) where
  referred_by : reference s n ≡ reference_by o v
  unfolding reference
  referred_by = ap₂ reference_by p q

module _ {text classes offsets lengths d : List ℕ} {start : ℕ} (i : ℕ) {e : ℕ}
    (g : NumberOf text offsets lengths d 32 (λ f. length f.entities ≤ 32) (λ f. entity_number f (name_in text offsets lengths i)) e) where
  pub entity_referred : e < 32 → Referred text classes offsets lengths d start i e
  unfolding reference_by scope_of
  entity_referred h = record { within = omega arith; is = λ c l. go c (entity_here i g c h) }
    where
      go : (c : RuleWorld text classes offsets lengths d start)
          → (f : Indexed Entity) × (entity_named c.bench.file (name_in text offsets lengths i) ≡ some f) × (f.number ≡ e)
          → e ≡ reference (world_scope c) (name_in text offsets lengths i)
      go c (f, p, k) = sym k ∙ sym (referred_by (world_scope c) (name_in text offsets lengths i) p refl)

  pub variable_referred : 32 ≤ e → {r : ℕ} → VariableReference text classes offsets lengths start i r → Referred text classes offsets lengths d start i r
  unfolding scope_of reference_by by_number
  variable_referred h {r} v = record { within = v.within; is = λ c l. go c l }
    where
      found : (c : RuleWorld text classes offsets lengths d start)
          → reference (world_scope c) (name_in text offsets lengths i) ≡ reference_alike text offsets lengths i 32 (names_from classes start)
      found c =
          referred_by (world_scope c) (name_in text offsets lengths i) (entity_missing i g c h) refl
          ∙ by_32 (variable_named (variables c.rule) (name_in text offsets lengths i))
          ∙ ap (λ vs. by_number text offsets lengths i 32 (variable_named vs (name_in text offsets lengths i))) (world_variables c)
          ∙ sym (alike_number text offsets lengths i 32 (names_from classes start))
        where
          by_32 : (o : Option (Indexed Variable)) → reference_by none o ≡ by_number text offsets lengths i 32 o
          by_32 none = refl
          by_32 (some f) = refl

      go : (c : RuleWorld text classes offsets lengths d start) → reference (world_scope c) (name_in text offsets lengths i) < 256
          → r ≡ reference (world_scope c) (name_in text offsets lengths i)
      go c l = v.is (rw (found c) at l) ∙ sym (found c)

-- ---- the owner of a member's name

-- what the tokens before a member's name say of where its owner stands
data Seen (classes : List ℕ) (n m : ℕ) : Type 0 where
  after_dot : 2 ≤ m → get_or classes (m - 1) 0 ≡ DOT → n ≡ m - 2 → Seen classes n m
  after_event : 2 ≤ m → get_or classes (m - 1) 0 ≡ EVENT → n ≡ m + 1 + 1 → m + 1 + 1 < length classes → Seen classes n m
  after_action : {k : ℕ} → 2 ≤ m → get_or classes (m - 1) 0 ≡ ACTION → n ≡ k + 1 → m ≤ k → k < length classes → get_or classes k 0 ≡ ON
      → ((j : ℕ) → m ≤ j → j < k → get_or classes j 0 ≡ ON → ⊥) → Seen classes n m
  after_with : 4 ≤ m → get_or classes (m - 1) 0 ≡ WITH → (get_or classes (m - 3) 0 ≡ COLON → ⊥) → n ≡ m - 2 → Seen classes n m
  after_declared : 4 ≤ m → get_or classes (m - 1) 0 ≡ WITH → get_or classes (m - 3) 0 ≡ COLON → n ≡ m - 4 → Seen classes n m

module _ {classes : List ℕ} {start used : ℕ} where
  at_number : {j k c : ℕ} → Within classes start used j c → k ≡ j → get_or classes k 0 ≡ c
  at_number w e = ap (λ i. get_or classes i 0) e ∙ w.class

  no_colon : {j k : ℕ} → Within classes start used j FROM ⊎ Within classes start used j ON → k ≡ j → get_or classes k 0 ≡ COLON → ⊥
  no_colon (inl w) e h = let z = at_number w e in omega arith
  no_colon (inr w) e h = let z = at_number w e in omega arith

  one_in : {j : ℕ} → Within classes start used j FROM ⊎ Within classes start used j ON → start < j
  one_in (inl w) = w.after
  one_in (inr w) = w.after

  seen : {n m : ℕ} → Owned classes start used n m → Seen classes n m
  seen (dotted {i = i} x y z) = after_dot (omega arith) (at_number y (omega arith)) (omega arith)
  seen (sourced {i = i} x y z t) = after_event (omega (arith, x.after)) (at_number x (omega arith)) (omega arith) (omega (arith, t.inside))
  seen (called {i = i} {k = k} x y z t l f) =
      after_action {k = k} (omega (arith, x.after)) (at_number x (omega arith)) refl (omega arith) z.inside z.class (λ j a b. f j (omega arith) b)
  seen (filtered {k = k} x y z t) =
      after_with (omega (arith, one_in x)) (at_number z (omega arith)) (no_colon x (omega arith)) (omega arith)
  seen (declared {k = k} x y z t u v) =
      after_declared (omega (arith, one_in x)) (at_number u (omega arith)) (at_number z (omega arith)) (omega arith)

  pub owner_inside : {n m : ℕ} → Owned classes start used n m → n < length classes
  owner_inside (dotted x y z) = x.inside
  owner_inside (sourced x y z t) = t.inside
  owner_inside (called x y z t l f) = t.inside
  owner_inside (filtered x y z t) = y.inside
  owner_inside (declared x y z t u v) = y.inside

by_seen : {classes : List ℕ} {i r : ℕ} → ((n : ℕ) → Seen classes n i → r ≡ n) → OwnerOf classes i r
by_seen f = record { is = λ start used n o. f n (seen o) }

module _ {classes : List ℕ} {i : ℕ} where
  pub no_owner_first : {r : ℕ} → i < 2 → OwnerOf classes i r
  no_owner_first {r} h = by_seen go
    where
      go : (n : ℕ) → Seen classes n i → r ≡ n
      go n (after_dot l p q) = absurd (omega arith)
      go n (after_event l p q s) = absurd (omega arith)
      go n (after_action l p q s t u v) = absurd (omega arith)
      go n (after_with l p q s) = absurd (omega arith)
      go n (after_declared l p q s) = absurd (omega arith)

  module _ {before : ℕ} (e : before ≡ get_or classes (i - 1) 0) where
    pub dotted_owner : before ≡ DOT → OwnerOf classes i (i - 2)
    dotted_owner h = by_seen go
      where
        go : (n : ℕ) → Seen classes n i → i - 2 ≡ n
        go n (after_dot l p q) = sym q
        go n (after_event l p q s) = absurd (omega arith)
        go n (after_action l p q s t u v) = absurd (omega arith)
        go n (after_with l p q s) = absurd (omega arith)
        go n (after_declared l p q s) = absurd (omega arith)

    pub event_owner : before ≡ EVENT → {j r : ℕ} → Steps (length classes) i j → Steps (length classes) j r → OwnerOf classes i r
    event_owner h {j} {r} a b = by_seen go
      where
        go : (n : ℕ) → Seen classes n i → r ≡ n
        go n (after_dot l p q) = absurd (omega arith)
        go n (after_event l p q s) = let x = a.steps (omega arith) in let y = b.steps (omega arith) in omega arith
        go n (after_action l p q s t u v) = absurd (omega arith)
        go n (after_with l p q s) = absurd (omega arith)
        go n (after_declared l p q s) = absurd (omega arith)

    pub action_owner : before ≡ ACTION → {on r : ℕ} → FirstOf classes ON i on → Steps (length classes) on r → OwnerOf classes i r
    action_owner h {on} {r} f b = by_seen go
      where
        same : (k : ℕ) → i ≤ k → k < length classes → get_or classes k 0 ≡ ON → ((j : ℕ) → i ≤ j → j < k → get_or classes j 0 ≡ ON → ⊥) → on ≡ k
        same k l s u v = here (ltb on k) refl (ltb k on) refl
          where
            here : (x : Bool) → ltb on k ≡ x → (y : Bool) → ltb k on ≡ y → on ≡ k
            here true x y z =
                let a : on < k = ltb-true on k x in
                absurd (v on f.low a (f.here (omega arith)))
            here false x true z = absurd (f.before k (ltb-true k on z) l u)
            here false x false z = omega (arith, ltb-false on k x, ltb-false k on z)

        go : (n : ℕ) → Seen classes n i → r ≡ n
        go n (after_dot l p q) = absurd (omega arith)
        go n (after_event l p q s) = absurd (omega arith)
        go n (after_action {k = k} l p q s t u v) =
            let x = same k s t u v in
            let y = b.steps (omega arith) in
            omega arith
        go n (after_with l p q s) = absurd (omega arith)
        go n (after_declared l p q s) = absurd (omega arith)

    pub other_owner : {r : ℕ} → (before ≡ DOT → ⊥) → (before ≡ EVENT → ⊥) → (before ≡ ACTION → ⊥) → (before ≡ WITH → ⊥) → OwnerOf classes i r
    other_owner {r} x y z w = by_seen go
      where
        go : (n : ℕ) → Seen classes n i → r ≡ n
        go n (after_dot l p q) = absurd (x (e ∙ p))
        go n (after_event l p q s) = absurd (y (e ∙ p))
        go n (after_action l p q s t u v) = absurd (z (e ∙ p))
        go n (after_with l p q s) = absurd (w (e ∙ p))
        go n (after_declared l p q s) = absurd (w (e ∙ p))

    module _ (h : before ≡ WITH) where
      pub no_owner_second : {r : ℕ} → i < 4 → OwnerOf classes i r
      no_owner_second {r} few = by_seen go
        where
          go : (n : ℕ) → Seen classes n i → r ≡ n
          go n (after_dot l p q) = absurd (omega arith)
          go n (after_event l p q s) = absurd (omega arith)
          go n (after_action l p q s t u v) = absurd (omega arith)
          go n (after_with l p q s) = absurd (omega arith)
          go n (after_declared l p q s) = absurd (omega arith)

      module _ {third : ℕ} (b : third ≡ get_or classes (i - 3) 0) where
        pub declared_owner : third ≡ COLON → OwnerOf classes i (i - 4)
        declared_owner c = by_seen go
          where
            go : (n : ℕ) → Seen classes n i → i - 4 ≡ n
            go n (after_dot l p q) = absurd (omega arith)
            go n (after_event l p q s) = absurd (omega arith)
            go n (after_action l p q s t u v) = absurd (omega arith)
            go n (after_with l p q s) = absurd (q (sym b ∙ c))
            go n (after_declared l p q s) = sym s

        pub filtered_owner : (third ≡ COLON → ⊥) → OwnerOf classes i (i - 2)
        filtered_owner c = by_seen go
          where
            go : (n : ℕ) → Seen classes n i → i - 2 ≡ n
            go n (after_dot l p q) = absurd (omega arith)
            go n (after_event l p q s) = absurd (omega arith)
            go n (after_action l p q s t u v) = absurd (omega arith)
            go n (after_with l p q s) = sym s
            go n (after_declared l p q s) = absurd (c (b ∙ q))

-- ---- a member, and a row

module _ {text classes offsets lengths d : List ℕ} {start : ℕ} where
  pub member_is : (owner i : ℕ) {m : code.Option ℕ} {r : ℕ} → Meant text classes offsets lengths d start owner m
      → {face : ℕ} → face ≡ unwrap_or m 16
      → NumberOf text offsets lengths d 12 (FewMembers face) (λ f. member_number (get_elem? f.interfaces face) (name_in text offsets lengths i)) r
      → MemberOf text classes offsets lengths d start owner i r
  unfolding member_meant
  member_is owner i {m} h {face} u g = record {
    within = g.within;
    is = λ c.
        g.is classes c.bench (c.few.members face)
        ∙ ap (λ o. member_number o (name_in text offsets lengths i)) (ap (get_elem? c.bench.file.interfaces) u ∙ h.face c);
  }

  module _ {i low owner : ℕ} (a : Referred text classes offsets lengths d start i low) (o : OwnerOf classes i owner) where
    pub row_alone : length classes ≤ owner → RowResolved text classes offsets lengths d start i (3072 + low)
    row_alone h = record {
      owner = λ c l. let z = a.is c l in omega (arith, a.within);
      member = λ c n w. let z = o.is start c.begins.used n w in let k = owner_inside w in absurd (omega arith);
    }

    pub row_with_member : {m : ℕ} → MemberOf text classes offsets lengths d start owner i m → RowResolved text classes offsets lengths d start i (m * 256 + low)
    row_with_member {m} b = record {
      owner = λ c l. let z = a.is c l in omega (arith, a.within);
      member = λ c n w.
          let z : (m * 256 + low) / 256 ≡ m = omega (arith, a.within) in
          z ∙ b.is c ∙ ap (λ j. member_meant (world_scope c) (name_in text offsets lengths j) (name_in text offsets lengths i)) (o.is start c.begins.used n w);
    }

-- which token is the owner
pub ruleset owners = (no_owner_first, dotted_owner, event_owner, action_owner, other_owner, no_owner_second, declared_owner, filtered_owner)

-- the turns of the search for a variable
pub ruleset referring_turns = (referring_all, referring_over, referring_full, referring_end, referring_here, referring_other, referring_on)
