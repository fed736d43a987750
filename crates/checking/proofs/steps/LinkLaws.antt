-- Each entity's interface, written into the directory: the other rows stay, and the directory is whole then.
use Prim.Native.Nat.{ℕ, ◌+◌, ◌*◌, ◌≤◌, ◌<◌}
use native.Mathlib.Omega.{arith}
use mathlib.Core.Path.{◌≡◌, refl, ap, ◌∙◌}
use mathlib.Core.Bool.{Bool, true, false}
use mathlib.Core.List.{List}
use mathlib.Core.Option.{some}
use Rattle.std.specs.Prelude as code
use Rattle.std.specs.Prelude.{min, unwrap_or}
use lib.Dec.{eqb}
use lib.ListN.{length, get_or, get_elem?, set, length-set}
use lib.Seq.{get_or-set_same, get_or-set_other}
use borrow.Author.Tests.{eqb-true, eqb-false}
use Rattle.text.specs.definitions.Tokens.{Token}
use Rattle.text.specs.definitions.Syntax.{Member, Interface, Entity, File}
use Rattle.checking.specs.definitions.Scope.{look_up}
use Rattle.checking.specs.inner_contracts.Directory.{name_in, ColumnsOf, Named, entity_interface_row, DirectoryOf, number_or, interface_number}
use Rattle.checking.specs.inner_contracts.DirectoryReads.{Few, FirstNamed}
use Rattle.checking.specs.inner_contracts.DeclarationWalk.{EntitiesLinked}
use Rattle.checking.specs.inner_contracts.DirectoryItems.{ItemsOf}
use Rattle.checking.proofs.laws.DirectoryLaws.{number_below, column_bytes}
use Rattle.checking.proofs.laws.CalledLaws.{first_named}
use Rattle.checking.proofs.laws.EntityTokens.{entity_stands}

module _ {f : File} {ts : List Token} {d : List ℕ} where
  pub directory_lists : DirectoryOf f ts d → ItemsOf f ts d
  directory_lists h = record {
    interfaces = h.interfaces;
    entities = h.entities;
    rules = h.rules;
    interface = h.interface;
    interface_name = h.interface_name;
    member_count = h.member_count;
    member_name = h.member_name;
    member_sort = h.member_sort;
    member_kind = h.member_kind;
    entity = h.entity;
    entity_name = h.entity_name;
    rule = h.rule;
  }

  pub listed_directory : ItemsOf f ts d
      → ((e : ℕ) (x : Entity) → get_elem? f.entities e ≡ some x → get_or d (entity_interface_row e) 0 ≡ interface_number f x.interface.bytes)
      → DirectoryOf f ts d
  listed_directory h linked = record {
    interfaces = h.interfaces;
    entities = h.entities;
    rules = h.rules;
    interface = h.interface;
    interface_name = h.interface_name;
    member_count = h.member_count;
    member_name = h.member_name;
    member_sort = h.member_sort;
    member_kind = h.member_kind;
    entity = h.entity;
    entity_name = h.entity_name;
    entity_interface = linked;
    rule = h.rule;
  }

  -- rows from 323 on say nothing of what is listed
  pub listed_same : {e : List ℕ} → Few f → length f.rules ≤ 64 → ((i : ℕ) → i < 323 → get_or e i 0 ≡ get_or d i 0) → ItemsOf f ts d → ItemsOf f ts e
  listed_same {e} few rules same h = record {
    interfaces = same 0 (omega arith) ∙ h.interfaces;
    entities = same 1 (omega arith) ∙ h.entities;
    rules = same 2 (omega arith) ∙ h.rules;
    interface = λ k i s. rw (same (3 + k) (interface_below k i s 3 (omega arith))) (h.interface k i s);
    interface_name = λ k i s. rw (same (3 + k) (interface_below k i s 3 (omega arith))) (h.interface_name k i s);
    member_count = λ k i s. same (19 + k) (interface_below k i s 19 (omega arith)) ∙ h.member_count k i s;
    member_name = λ k j i m s t. rw (same (35 + k * 12 + j) (member_below k j i m s t)) (h.member_name k j i m s t);
    member_sort = λ k j i m s t. rw (same (35 + k * 12 + j) (member_below k j i m s t)) (h.member_sort k j i m s t);
    member_kind = λ k j i m s t. rw (same (35 + k * 12 + j) (member_below k j i m s t)) (h.member_kind k j i m s t);
    entity = λ k x s. rw (same (227 + k) (entity_below k x s)) (h.entity k x s);
    entity_name = λ k x s. rw (same (227 + k) (entity_below k x s)) (h.entity_name k x s);
    rule = λ k r s. let l = number_below f.rules k s in rw (same (259 + k) (omega arith)) (h.rule k r s);
  }
    where
      interface_below : (k : ℕ) (i : Interface) → get_elem? f.interfaces k ≡ some i → (base : ℕ) → base ≤ 19 → base + k < 323
      interface_below k i s base l = let m = number_below f.interfaces k s in let n = few.interfaces in omega arith

      member_below : (k j : ℕ) (i : Interface) (m : Member) → get_elem? f.interfaces k ≡ some i → get_elem? i.members j ≡ some m → 35 + k * 12 + j < 323
      member_below k j i m s t =
          let a = number_below f.interfaces k s in
          let b = number_below i.members j t in
          let c = few.interfaces in
          let e = few.members k i s in
          omega arith

      entity_below : (k : ℕ) (x : Entity) → get_elem? f.entities k ≡ some x → 227 + k < 323
      entity_below k x s = let l = number_below f.entities k s in let m = few.entities in omega arith

-- ---- entity after entity

-- the directory was d and is e: the interfaces of the first n entities are written
pub record Linking (text offsets lengths d e : List ℕ) (n : ℕ) : Type 0 where
  pub within : n ≤ 32
  pub counted : n ≤ get_or d 1 0
  pub size : length e ≡ length d
  pub below : (i : ℕ) → i < 323 → get_or e i 0 ≡ get_or d i 0
  pub beyond : (i : ℕ) → 323 + n ≤ i → get_or e i 0 ≡ get_or d i 0
  pub linked : (classes : List ℕ) (ts : List Token) (f : File) → ColumnsOf text classes offsets lengths ts → ItemsOf f ts d → Few f
      → length f.rules ≤ 64 → (j : ℕ) (x : Entity) → j < n → get_elem? f.entities j ≡ some x
      → get_or e (323 + j) 0 ≡ interface_number f x.interface.bytes

module _ {text offsets lengths d : List ℕ} where
  -- too short for a directory
  pub not_linked : length d < 355 → EntitiesLinked text offsets lengths d d
  not_linked h = record {
    size = refl;
    below = λ i l. refl;
    beyond = λ i l. refl;
    links = λ classes ts f room. absurd (omega arith);
  }

  pub linking_none : Linking text offsets lengths d d 0
  linking_none = record {
    within = omega arith;
    counted = omega arith;
    size = refl;
    below = λ i l. refl;
    beyond = λ i l. refl;
    linked = λ classes ts f columns listed few rules j x l. absurd (omega arith);
  }

  pub linking_all : {e : List ℕ} {n count : ℕ} → Linking text offsets lengths d e n → count ≡ min (get_or d 1 0) 32 → count ≤ n
      → EntitiesLinked text offsets lengths d e
  linking_all {e} {n} {count} p c h = record {
    size = p.size;
    below = p.below;
    beyond = λ i l. let m = p.counted in p.beyond i (omega arith);
    links = λ classes ts f room columns listed few rules.
        listed_directory (listed_same few rules p.below listed)
        (λ j x s. p.linked classes ts f columns listed few rules j x (inside f listed few j x s) s);
  }
    where
      inside : (f : File) {ts : List Token} → ItemsOf f ts d → Few f → (j : ℕ) (x : Entity) → get_elem? f.entities j ≡ some x → j < n
      inside f listed few j x s =
          let a = number_below f.entities j s in
          let b = few.entities in
          let k = listed.entities in
          omega arith

  module _ {e : List ℕ} {n count interfaces at : ℕ} (p : Linking text offsets lengths d e n) (room : 355 ≤ length d) (c : count ≡ min (get_or d 1 0) 32)
      (m : n < count) (a : at ≡ get_or e (227 + n) 0) {called : List ℕ} (q : called ≡ name_in text offsets lengths (at + 3))
      (i : interfaces ≡ min (get_or e 0 0) 16) {found : code.Option ℕ} (h : FirstNamed text offsets lengths e 3 interfaces called found)
      {face : ℕ} (u : face ≡ unwrap_or found 16) where
    here : (classes : List ℕ) (ts : List Token) (f : File) → ColumnsOf text classes offsets lengths ts → ItemsOf f ts d → Few f
        → length f.rules ≤ 64 → (x : Entity) → get_elem? f.entities n ≡ some x → face ≡ interface_number f x.interface.bytes
    unfolding interface_number
    here classes ts f columns listed few rules x s =
        let now : ItemsOf f ts e = listed_same few rules p.below listed in
        let named : Named ts (at + 3) x.interface = rw a (entity_stands (now.entity n x s)).interface in
        let size : interfaces ≡ length f.interfaces = (let z = now.interfaces in let y = few.interfaces in omega arith) in
        u
        ∙ first_named columns (λ (y : Interface). y.name) f.interfaces e 3 called now.interface_name 16 h size
        ∙ ap (λ b. number_or 16 (look_up (λ (y : Interface). y.name) b f.interfaces)) (q ∙ column_bytes columns named)

    pub linking_on : Linking text offsets lengths d (set e (323 + n) face) (n + 1)
    linking_on = record {
      within = omega arith;
      counted = omega arith;
      size = length-set e (323 + n) face ∙ p.size;
      below = λ k q. get_or-set_other e (323 + n) k face 0 (λ z. omega arith) ∙ p.below k q;
      beyond = λ k q. get_or-set_other e (323 + n) k face 0 (λ z. omega arith) ∙ p.beyond k (omega arith);
      linked = λ classes ts f columns listed few rules j x q s. go classes ts f columns listed few rules j x q s (eqb j n) refl;
    }
      where
        go : (classes : List ℕ) (ts : List Token) (f : File) → ColumnsOf text classes offsets lengths ts → ItemsOf f ts d → Few f
            → length f.rules ≤ 64 → (j : ℕ) (x : Entity) → j < n + 1 → get_elem? f.entities j ≡ some x → (t : Bool) → eqb j n ≡ t
            → get_or (set e (323 + n) face) (323 + j) 0 ≡ interface_number f x.interface.bytes
        go classes ts f columns listed few rules j x q s true t =
            let z : j ≡ n = eqb-true j n t in
            let y = p.size in
            let inside : 323 + n < length e = omega arith in
            rw (z, get_or-set_same e (323 + n) face 0 inside) (here classes ts f columns listed few rules x (rw z at s))
        go classes ts f columns listed few rules j x q s false t =
            let z : j ≡ n → ⊥ = eqb-false j n t in
            get_or-set_other e (323 + n) (323 + j) face 0 (λ y. z (omega arith)) ∙ p.linked classes ts f columns listed few rules j x (omega arith) s
