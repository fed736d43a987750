-- A directory of its parts: its items, which the classes alone give, and then the entities' interfaces.
use Prim.Native.Nat.{ℕ, ◌+◌, ◌*◌, ◌<◌}
use native.Mathlib.Omega.{arith}
use mathlib.Core.Path.{◌≡◌, ◌∙◌}
use mathlib.Core.List.{List, []}
use mathlib.Core.Option.{some}
use lib.ListN.{get_or, get_elem?}
use Rattle.text.specs.definitions.Tokens.{Token}
use Rattle.text.specs.definitions.Syntax.{Member, Interface, Entity, Rule, File}
use Rattle.checking.specs.definitions.CountFaults.{count_faults}
use Rattle.checking.specs.inner_contracts.CountChecked.{ClassesOf, OffsetsOf}
use Rattle.checking.specs.inner_contracts.Directory.{ColumnsOf, DirectoryOf, interface_number, entity_interface_row}
use Rattle.checking.specs.inner_contracts.DirectoryItems.{ItemsOf}
use Rattle.checking.proofs.laws.CountBounds.{few_interfaces, FewMembers, few_entities, few_rules}

module _ {text classes offsets lengths : List ℕ} {ts : List Token} (w : ColumnsOf text classes offsets lengths ts) where
  pub columns_classes : ClassesOf classes ts
  columns_classes = record { count = w.count; class = w.class }

  pub columns_offsets : OffsetsOf offsets ts
  columns_offsets = record { offset = w.offset }

module _ {f : File} {ts : List Token} {d : List ℕ} (h : ItemsOf f ts d) where
  pub directory_of : ((e : ℕ) (x : Entity) → get_elem? f.entities e ≡ some x → get_or d (entity_interface_row e) 0 ≡ interface_number f x.interface.bytes)
      → DirectoryOf f ts d
  directory_of g = record {
    interfaces = h.interfaces;
    entities = h.entities;
    rules = h.rules;
    interface = h.interface;
    interface_name = h.interface_name;
    member_count = h.member_count;
    member_name = h.member_name;
    member_sort = h.member_sort;
    member_kind = h.member_kind;
    entity = h.entity;
    entity_name = h.entity_name;
    entity_interface = g;
    rule = h.rule;
  }

  -- what comes after them may change
  module _ (none : count_faults f ≡ []) (new : List ℕ) (same : (i : ℕ) → i < entity_interface_row 0 → get_or new i 0 ≡ get_or d i 0) where
    interface_row_same : (k : ℕ) {i : Interface} → get_elem? f.interfaces k ≡ some i → get_or new (3 + k) 0 ≡ get_or d (3 + k) 0
    interface_row_same k e = same (3 + k) (omega (arith, few_interfaces f none k e))

    member_row_same : (k j : ℕ) (i : Interface) {m : Member} → get_elem? f.interfaces k ≡ some i → get_elem? i.members j ≡ some m
        → get_or new (35 + k * 12 + j) 0 ≡ get_or d (35 + k * 12 + j) 0
    member_row_same k j i e g = same (35 + k * 12 + j) (omega (arith, few_interfaces f none k e, FewMembers f none k j i e g))

    entity_row_same : (k : ℕ) {x : Entity} → get_elem? f.entities k ≡ some x → get_or new (227 + k) 0 ≡ get_or d (227 + k) 0
    entity_row_same k e = same (227 + k) (omega (arith, few_entities f none k e))

    rule_row_same : (k : ℕ) {r : Rule} → get_elem? f.rules k ≡ some r → get_or new (259 + k) 0 ≡ get_or d (259 + k) 0
    rule_row_same k e = same (259 + k) (omega (arith, few_rules f none k e))

    pub items_kept : ItemsOf f ts new
    items_kept = record {
      interfaces = same 0 (omega arith) ∙ h.interfaces;
      entities = same 1 (omega arith) ∙ h.entities;
      rules = same 2 (omega arith) ∙ h.rules;
      interface = λ k i e. rw (interface_row_same k e) (h.interface k i e);
      interface_name = λ k i e. rw (interface_row_same k e) (h.interface_name k i e);
      member_count = λ k i e. same (19 + k) (omega (arith, few_interfaces f none k e)) ∙ h.member_count k i e;
      member_name = λ k j i m e g. rw (member_row_same k j i e g) (h.member_name k j i m e g);
      member_sort = λ k j i m e g. rw (member_row_same k j i e g) (h.member_sort k j i m e g);
      member_kind = λ k j i m e g. rw (member_row_same k j i e g) (h.member_kind k j i m e g);
      entity = λ k x e. rw (entity_row_same k e) (h.entity k x e);
      entity_name = λ k x e. rw (entity_row_same k e) (h.entity_name k x e);
      rule = λ k r e. rw (rule_row_same k e) (h.rule k r e);
    }
