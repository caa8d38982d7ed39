use Rattle.std.specs.Prelude.{◌≡◌, ℕ, ◌+◌, ◌*◌, ◌/◌, ◌%◌, ◌^◌, ◌<◌, ◌≢◌, ◌==◌, refl}
use Rattle.std.proofs.Common.{ap, ◌∙◌, sym, inl, inr, arith}
use native.Mathlib.Nat.{mod-lt, mul-div_cancel_left}
use lib.Pow.{high, low}
use Rattle.std.proofs.lemmas.Nat.{pow_pos}
use Rattle.std.proofs.lemmas.Bool.{cond-false, cond-true, eq-eqb, ne_eqb, cases_eq}
use Rattle.mapping.specs.AlphaFormat.{order_in, fault_in, alpha_word, frame_in, neighbour}

-- an order of Alpha's
pub record Order (k : ℕ) : Type 0 where
  pub part : ℕ
  pub few : part < 4
  pub is : k ≡ 3 * part

pub hinted : (e : ℕ) → Order (order_in e)
unfolding order_in
hinted e = record { part = e / 32 % 4; few = omega arith; is = refl }

pub word_order : (f k h : ℕ) → Order k → h < 2 → order_in (alpha_word f k h) ≡ k
unfolding order_in alpha_word
word_order f k h o l = omega arith

pub word_fault : (f k h : ℕ) → Order k → h < 2 → fault_in (alpha_word f k h) ≡ h
unfolding fault_in alpha_word
word_fault f k h o l = omega arith

pub word_frame : (f k h : ℕ) → Order k → h < 2 → alpha_word f k h / 4294967296 ≡ f
unfolding alpha_word
word_frame f k h o l = omega arith

pub word_some : (f k h : ℕ) → alpha_word f k h ≢ 0
unfolding alpha_word
word_some f k h e = omega arith

pub fault_bit : (e : ℕ) → fault_in e < 2
unfolding fault_in
fault_bit e = omega arith

-- an aligned frame n, and a page j of its block
pub word_first : (n j k h : ℕ) → Order k → h < 2 → n % 2 ^ k ≡ 0 → frame_in (alpha_word (n + j % 2 ^ k) k h) ≡ n
unfolding frame_in
word_first n j k h o l a =
    let s : n / 2 ^ k * 2 ^ k + n % 2 ^ k ≡ n = lib.Pow.split n k in
    let s' : n / 2 ^ k * 2 ^ k ≡ n = omega arith in
    let b : j % 2 ^ k < 2 ^ k = mod-lt j (pow_pos k) in
    let q : (n / 2 ^ k * 2 ^ k + j % 2 ^ k) / 2 ^ k ≡ n / 2 ^ k = high (n / 2 ^ k) k b in
    let q' : (n + j % 2 ^ k) / 2 ^ k ≡ n / 2 ^ k = rw s' at q in
    rw (word_order (n + j % 2 ^ k) k h o l, word_frame (n + j % 2 ^ k) k h o l, q') s'

pub frame_aligned : (e : ℕ) → frame_in e % 2 ^ order_in e ≡ 0
unfolding frame_in
frame_aligned e = native.Mathlib.Nat.mul-mod_left (e / 4294967296 / 2 ^ order_in e) (2 ^ order_in e)

pub neighbour_zero : (e j : ℕ) → e ≡ 0 → neighbour e j ≡ 0
unfolding neighbour
neighbour_zero e j z = cond-true (e == 0) _ _ (eq-eqb e 0 z)

pub neighbour_is : (e j : ℕ) → (e ≢ 0) → neighbour e j ≡ alpha_word (frame_in e + j % 2 ^ order_in e) (order_in e) (fault_in e)
unfolding neighbour
neighbour_is e j n = cond-false (e == 0) _ _ (ne_eqb e 0 n)

pub neighbour_order : (e j : ℕ) → order_in (neighbour e j) ≡ order_in e
neighbour_order e j =
    elim (cases_eq e 0) [
      | inl z ↦ ap order_in (neighbour_zero e j z ∙ sym z)
      | inr n ↦ ap order_in (neighbour_is e j n) ∙ word_order _ (order_in e) (fault_in e) (hinted e) (fault_bit e)
    ]

pub neighbour_fault : (e j : ℕ) → fault_in (neighbour e j) ≡ fault_in e
neighbour_fault e j =
    elim (cases_eq e 0) [
      | inl z ↦ ap fault_in (neighbour_zero e j z ∙ sym z)
      | inr n ↦ ap fault_in (neighbour_is e j n) ∙ word_fault _ (order_in e) (fault_in e) (hinted e) (fault_bit e)
    ]

pub neighbour_frame : (e j : ℕ) → frame_in (neighbour e j) ≡ frame_in e
neighbour_frame e j =
    elim (cases_eq e 0) [
      | inl z ↦ ap frame_in (neighbour_zero e j z ∙ sym z)
      | inr n ↦ ap frame_in (neighbour_is e j n) ∙ word_first (frame_in e) j (order_in e) (fault_in e) (hinted e) (fault_bit e) (frame_aligned e)
    ]

pub neighbour_some : (e j : ℕ) → (e ≢ 0) → neighbour e j ≢ 0
neighbour_some e j n z = word_some _ _ _ (sym (neighbour_is e j n) ∙ z)
