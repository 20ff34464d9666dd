-- Of every expression that is read: at most 2,048 nodes are read in all, it is no higher than the depth that was given, its variables are
-- bound, its numbers are known, and it takes at least a byte for each node. All in one induction, whose measure is the depth.
-- Assumes nothing.
use mathlib.Core.Path.{◌≡◌, refl}
use mathlib.Core.List.{List}
use Prim.Native.Nat.{ℕ, zero, suc, ◌+◌, ◌^◌, ◌<◌, ◌≤◌}
use native.Mathlib.Omega.{arith}
use lib.Dec.{leb}
use lib.ListN.{length, get_or, drop, length-drop}
use borrow.Author.Tests.{leb-false}
use Rattle.cells.specs.Code.{Small}
use Rattle.cells.specs.declared.Mode.TheVariants.{Checked}
use Rattle.cells.specs.declared.Kind.{Kind}
use Rattle.cells.specs.declared.Kind.TheVariants.{Int}
use Rattle.calculus.specs.Expr.{Expr, lit, var, malloc, bind, one, two, nodes, One, Two, Target}
use Rattle.calculus.specs.Operations.{operation_of}
use Rattle.calculus.specs.declared.Operation.{Operation}
use Rattle.calculus.specs.declared.Operation.TheVariants as op
use Rattle.calculus.specs.declared.Fault.TheVariants as fault
use Rattle.image.specs.Content.{Tables}
use Rattle.image.specs.Parsing.{Parsed, got, refused, number, below, carried}
use Rattle.image.specs.Tables.{read_target}
use Rattle.image.specs.Nodes.{Head, leaf, part, parts, binding, read_kind, head_of, read_head, read_parts, read_node}
use Rattle.image.specs.Image.{read_expr}
use Rattle.image.specs.Shape.{height, Scoped, scoped_lit, scoped_var, scoped_malloc, scoped_bind, scoped_one, scoped_two, KnownKind, known_kind, KnownTarget, KnownOne, known_unchecked, known_cast, known_read, known_field, Known, known_lit, known_var, known_malloc, known_bind, known_one, known_two, SmallExpr, small_lit, small_var, small_malloc, small_bind, small_one, small_two, SmallOne, small_unchecked, small_cast, small_read, small_field}
use Rattle.image.proofs.Gives.{Gives, gives, gives_none, gives_then, gives_test, gives_more, given_by}
use Rattle.image.proofs.Numbers.{number_gives, below_gives}
use Rattle.image.proofs.KnownKinds.{entry_small, known_pointer}
use Rattle.image.proofs.TypeLaws.{target_gives}

pub nodes_some : (e : Expr) → 0 < nodes e
unfolding nodes
nodes_some (lit n κ) = omega arith
nodes_some (var k) = omega arith
nodes_some (malloc ω) = omega arith
nodes_some (bind a b) = omega arith
nodes_some (one o e) = omega arith
nodes_some (two o a b) = omega arith

-- what was read from `at` on ends at `next`, inside the image
record Past (image : List ℕ) (at next : ℕ) : Type 0 where
  not_before : at ≤ next
  inside : next ≤ length image

-- a head whose numbers are known, inside `lets` lets
data Sane (t : Tables) (lets : ℕ) : Head → Type 0 where
  sane_lit : {n : ℕ} {κ : Kind} → n < 2 ^ 32 → KnownKind t κ → Sane t lets (leaf (lit n κ))
  sane_var : {k : ℕ} → k < lets → Sane t lets (leaf (var k))
  sane_malloc : {ω : Target} → KnownTarget (length t.structs) (length t.types) ω → Sane t lets (leaf (malloc ω))
  sane_part : {o : One} → KnownOne t o → Sane t lets (part o)
  sane_parts : {o : Two} → Sane t lets (parts o)
  sane_binding : Sane t lets binding

-- An expression that was read at `at`, at most `deep` deep, inside `lets` lets and behind `before` nodes.
pub record NodeGood (image : List ℕ) (t : Tables) (deep lets before at : ℕ) (e : Expr) (next : ℕ) : Type 0 where
  pub few : before + nodes e ≤ 2048
  pub low : height e ≤ deep
  pub scoped : Scoped lets e
  pub known : Known t e
  pub long : at + nodes e ≤ next
  pub inside : next ≤ length image

module _ (image : List ℕ) (t : Tables) where
  kind_gives : (at : ℕ) → Gives (λ κ next. KnownKind t κ × Past image at next) (read_kind image t at)
  kind_gives at =
      gives_then (below fault.Unknown (length t.types) image at) _ (below_gives fault.Unknown (length t.types) image at)
      (λ n next s. gives (known_kind n s.limited_by refl, record { not_before = omega arith; inside = s.within }))

  here : (at : ℕ) → at ≤ length image → Past image at at
  here at w = record { not_before = omega arith; inside = w }

  head_of_gives : (lets first : ℕ) (o : Operation) (at : ℕ) → at ≤ length image
      → Gives (λ h next. Sane t lets h × Past image at next) (head_of image t lets first o at)
  unfolding head_of
  head_of_gives lets first op.Literal at w =
      gives_then (number image at) _ (number_gives image at)
      (λ n at₁ a. gives_then (read_kind image t at₁) _ (kind_gives at₁)
      (λ κ at₂ b. gives (sane_lit a.fits b.0, record { not_before = omega arith; inside = b.1.inside })))
  head_of_gives lets first op.Variable at w =
      gives_then (below fault.Unknown lets image at) _ (below_gives fault.Unknown lets image at)
      (λ k at₁ a. gives (sane_var a.limited_by, record { not_before = omega arith; inside = a.within }))
  head_of_gives lets first op.Let at w = gives (sane_binding, here at w)
  head_of_gives lets first op.Malloc at w =
      gives_then (read_target image (length t.structs) (length t.types) at) _ (target_gives image (length t.structs) (length t.types) at)
      (λ ω at₁ a. gives (sane_malloc a.has, record { not_before = omega arith; inside = a.within }))
  head_of_gives lets first op.Unchecked at w = gives (sane_part known_unchecked, here at w)
  head_of_gives lets first op.Cast at w =
      gives_then (read_kind image t at) _ (kind_gives at) (λ κ at₁ a. gives (sane_part (known_cast a.0), a.1))
  head_of_gives lets first op.Read at w = gives (sane_part known_read, here at w)
  head_of_gives lets first (op.Acts o) at w = gives (sane_parts, here at w)
  head_of_gives lets first op.Field at w =
      gives_then (number image at) _ (number_gives image at)
      (λ f at₁ a. gives (sane_part (known_field a.fits), record { not_before = omega arith; inside = a.within }))
  head_of_gives lets first op.Unknown at w = gives_none

  -- a head with room for its node, behind its code
  record Headed (lets before at : ℕ) (h : Head) (next : ℕ) : Type 0 where
    room : before < 2048
    sane : Sane t lets h
    behind : at < next
    inside : next ≤ length image

  head_gives : (lets before at : ℕ) → Gives (Headed lets before at) (read_head image t lets before at)
  unfolding read_head
  head_gives lets before at =
      gives_then (number image at) _ (number_gives image at)
      (λ code at₁ a. gives_test (leb 2048 before) _ _
      (λ _. gives_none)
      (λ l. gives_more
      (λ h next s. record { room = leb-false 2048 before l; sane = s.0; behind = omega arith; inside = s.1.inside })
      (head_of_gives lets at (operation_of code) at₁ a.within)))

  -- a node without parts
  leaf_good : (deep lets before at : ℕ) {e : Expr} {next : ℕ} → Sane t lets (leaf e) → before < 2048 → at < next → next ≤ length image
      → NodeGood image t (suc deep) lets before at e next
  unfolding nodes height
  leaf_good deep lets before at (sane_lit n k) r b i =
      record { few = omega arith; low = omega arith; scoped = scoped_lit; known = known_lit n k; long = omega arith; inside = i }
  leaf_good deep lets before at (sane_var k) r b i =
      record { few = omega arith; low = omega arith; scoped = scoped_var k; known = known_var; long = omega arith; inside = i }
  leaf_good deep lets before at (sane_malloc ω) r b i =
      record { few = omega arith; low = omega arith; scoped = scoped_malloc; known = known_malloc ω; long = omega arith; inside = i }

  part_known : {lets : ℕ} {o : One} → Sane t lets (part o) → KnownOne t o
  part_known (sane_part k) = k

  -- the parts of a node, each read at most `deep` deep
  module _ (deep : ℕ) (part' : ℕ → ℕ → ℕ → Parsed Expr)
      (each : (lets before at : ℕ) → Gives (NodeGood image t deep lets before at) (part' lets before at)) where
    parts_give : (lets before at : ℕ) (h : Head) (next : ℕ) → Headed lets before at h next
        → Gives (NodeGood image t (suc deep) lets before at) (read_parts image t part' lets before h next)
    unfolding read_parts nodes height
    parts_give lets before at (leaf e) next s = gives (leaf_good deep lets before at s.sane s.room s.behind s.inside)
    parts_give lets before at (part o) next s =
        gives_then (part' lets (suc before) next) _ (each lets (suc before) next)
        (λ e m g. gives
        (record {
          few = omega arith;
          low = omega arith;
          scoped = scoped_one g.scoped;
          known = known_one (part_known s.sane) g.known;
          long = omega arith;
          inside = g.inside;
        }))
    parts_give lets before at (parts o) next s =
        gives_then (part' lets (suc before) next) _ (each lets (suc before) next)
        (λ a at₁ g. gives_then (part' lets (suc before + nodes a) at₁) _ (each lets (suc before + nodes a) at₁)
        (λ b at₂ h. gives
        (record {
          few = omega arith;
          low = omega arith;
          scoped = scoped_two g.scoped h.scoped;
          known = known_two g.known h.known;
          long = omega arith;
          inside = h.inside;
        })))
    parts_give lets before at binding next s =
        gives_then (part' lets (suc before) next) _ (each lets (suc before) next)
        (λ a at₁ g. gives_then (part' (suc lets) (suc before + nodes a) at₁) _ (each (suc lets) (suc before + nodes a) at₁)
        (λ b at₂ h. gives
        (record {
          few = omega arith;
          low = omega arith;
          scoped = scoped_bind g.scoped h.scoped;
          known = known_bind g.known h.known;
          long = omega arith;
          inside = h.inside;
        })))

  node_gives : (deep lets before at : ℕ) → Gives (NodeGood image t deep lets before at) (read_node image t deep lets before at)
  unfolding read_node
  node_gives zero lets before at = gives_then (number image at) _ (number_gives image at) (λ _ _ _. gives_none)
  node_gives (suc deep) lets before at =
      gives_then (read_head image t lets before at) _ (head_gives lets before at)
      (λ h next s. parts_give deep (read_node image t deep) (node_gives deep) lets before at h next s)

  -- An expression that was read at `at`, at most `deep` deep, inside `lets` lets and behind `before` nodes.
  pub node_good : {deep lets before at : ℕ} {e : Expr} {next : ℕ} → read_node image t deep lets before at ≡ got e next
      → NodeGood image t deep lets before at e next
  node_good {deep} {lets} {before} {at} q = given_by (node_gives deep lets before at) q

-- It ends behind its first byte.
pub good_behind : {image : List ℕ} {t : Tables} {deep lets before at : ℕ} {e : Expr} {next : ℕ}
    → NodeGood image t deep lets before at e next → at < next
good_behind {e = e} g = omega (arith, nodes_some e)

-- The whole expression, from `at` on.
pub record Whole (image : List ℕ) (t : Tables) (at : ℕ) (e : Expr) (next : ℕ) : Type 0 where
  pub few : nodes e ≤ 2048
  pub low : height e ≤ 64
  pub scoped : Scoped 0 e
  pub known : Known t e
  pub long : at + nodes e ≤ next
  pub ends : next ≤ length image

module _ (image : List ℕ) (t : Tables) (at : ℕ) where
  expr_gives : (r : Parsed Expr) → Gives (NodeGood (drop at image) t 64 0 0 0) r → Gives (Whole image t at) (carried at r)
  expr_gives (got e next) (gives g) =
      gives
      {a = e} {next = at + next}
      (record {
        few = omega arith;
        low = g.low;
        scoped = g.scoped;
        known = g.known;
        long = omega arith;
        ends = omega (arith, length-drop at image, nodes_some e);
      })
  expr_gives (refused f p) g = gives_none

  pub expr_good : {e : Expr} {next : ℕ} → read_expr image t at ≡ got e next → Whole image t at e next
  unfolding read_expr
  expr_good q = given_by (expr_gives (read_node (drop at image) t 64 0 0 0) (node_gives (drop at image) t 64 0 0 0)) q

-- where the tables have few types and structs and only kinds whose numbers fit, so has the expression
module _ (t : Tables) (few_types : length t.types ≤ 256) (few_structs : length t.structs ≤ 256)
    (all_small : (n : ℕ) → n < length t.types → Small (get_or t.types n Int)) where
  kind_small : {κ : Kind} → KnownKind t κ → Small κ
  kind_small (known_kind n l e) = rw e (all_small n l)

  one_small : {o : One} → KnownOne t o → SmallOne o
  one_small known_unchecked = small_unchecked
  one_small (known_cast k) = small_cast (kind_small k)
  one_small known_read = small_read
  one_small (known_field f) = small_field

  pub known_small : {e : Expr} → Known t e → SmallExpr e
  known_small (known_lit n k) = small_lit (kind_small k)
  known_small known_var = small_var
  known_small (known_malloc ω) = small_malloc (entry_small few_structs few_types (known_pointer Checked ω))
  known_small (known_bind a b) = small_bind (known_small a) (known_small b)
  known_small (known_one o e) = small_one (one_small o) (known_small e)
  known_small (known_two a b) = small_two (known_small a) (known_small b)
