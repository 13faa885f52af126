-- How the sums of the information bits come about, group by group.
use Rattle.std.proofs.Common.{◌≡◌, ℕ, ◌+◌, ◌*◌, ◌/◌, ◌%◌, ◌<◌, ◌≤◌, ◌==◌, ◌&&◌, Bool, false, List, length, get_or, take, refl, sym, ap, ap₂, subst, ◌∙◌, arith, mul-le-mul_left}
use Rattle.std.specs.List.{list_any}
use Rattle.std.proofs.lemmas.Nat.{div-mul-add, mod-mul-add}
use Rattle.s2_bits.specs.Bits.{xor, bit_at}
use Rattle.s2_mode.specs.Shape.{information_bits, check_count}
use Rattle.s2_rows.specs.Rows.{Rows, AreAddresses, row_of}
use Rattle.s2_matrix.specs.Code.{is_member}
use Rattle.s2_matrix.proofs.Joins.{row_more, row_apart, info_has}
use Rattle.s2_matrix.specs.Sums.{sum_of}
use Rattle.s2_matrix.specs.Planes.{plane_place}
use Rattle.s2_matrix.proofs.Sums.{or_apart, sum_of-same, sum_of-xor, sum_of-none, sum_of-add}

-- one address more of a row, which gives no check twice
pub row_sum_more : (row : List ℕ) (w : ℕ → Bool) (i q n size j : ℕ) → i < length row → AreAddresses n row → sum_of (λ m. list_any (λ x. (x + m * q) % n == j) (take (i + 1) row) && w m) size ≡ xor (sum_of (λ m. list_any (λ x. (x + m * q) % n == j) (take i row) && w m) size) (sum_of (λ m. ((get_or row i 0 + m * q) % n == j) && w m) size)
row_sum_more row w i q n size j h addresses =
    let any = λ (m : ℕ). list_any (λ x. (x + m * q) % n == j) (take i row) in
    let hit = λ (m : ℕ). (get_or row i 0 + m * q) % n == j in
    sum_of-same (λ m. list_any (λ x. (x + m * q) % n == j) (take (i + 1) row) && w m) (λ m. xor (any m && w m) (hit m && w m)) size (λ m less. ap (λ b. b && w m) (row_more row i (m * q) n j h) ∙ or_apart (any m) (hit m) (w m) (λ test. row_apart row i (m * q) n j h addresses test))
    ∙ sum_of-xor (λ m. any m && w m) (λ m. hit m && w m) size

-- a row of no addresses
pub row_sum_none : (w : ℕ → Bool) (size : ℕ) → sum_of (λ m. false && w m) size ≡ false
row_sum_none w size = sum_of-none (λ m. false && w m) size (λ m less. refl)

-- one group more of information bits
pub group_sum : (r : Rows) (info bits : List Bool) (g j : ℕ) → 1 ≤ r.shape.group → g < r.shape.groups → ((m : ℕ) → m < r.shape.group → bit_at bits m ≡ bit_at info (r.shape.group * g + m)) → sum_of (λ b. is_member r j b && bit_at info b) (r.shape.group * (g + 1)) ≡ xor (sum_of (λ b. is_member r j b && bit_at info b) (r.shape.group * g)) (sum_of (λ m. list_any (λ x. (x + m * r.shape.q) % check_count r.shape == j) (row_of r g) && bit_at bits m) r.shape.group)
group_sum r info bits g j some low are =
    let group = r.shape.group in
    let f = λ (b : ℕ). is_member r j b && bit_at info b in
    let more : group * (g + 1) ≡ group * g + group = omega arith in
    ap (sum_of f) more ∙ sum_of-add f (group * g) group ∙ ap (xor (sum_of f (group * g))) (sum_of-same (λ m. f (group * g + m)) (λ m. list_any (λ x. (x + m * r.shape.q) % check_count r.shape == j) (row_of r g) && bit_at bits m) group (λ m less. ap₂ (λ (a b : Bool). a && b) (member m less) (sym (are m less))))
  where
    member : (m : ℕ) → m < r.shape.group → is_member r j (r.shape.group * g + m) ≡ list_any (λ x. (x + m * r.shape.q) % check_count r.shape == j) (row_of r g)
    member m less =
        let group = r.shape.group in
        let b = group * g + m in
        let turn : group * g + m ≡ g * group + m = omega arith in
        let div : (group * g + m) / group ≡ g = ap (λ n. n / group) turn ∙ div-mul-add g group m less in
        let rest : (group * g + m) % group ≡ m = ap (λ n. n % group) turn ∙ mod-mul-add g group m less in
        let below : group * g + m < information_bits r.shape = (let big = mul-le-mul_left group low in omega (arith, big)) in
        info_has r (group * g + m) j below ∙ ap₂ (λ (g' m' : ℕ). list_any (λ x. (x + m' * r.shape.q) % check_count r.shape == j) (row_of r g')) div rest

-- what a group adds, by the program's numbers
pub group_more : (r : Rows) (info bits old new : List Bool) (row : List ℕ) (n q g : ℕ) → n ≡ r.shape.group → q ≡ r.shape.q → row ≡ row_of r g → 1 ≤ r.shape.group → g < r.shape.groups → ((m : ℕ) → m < n → bit_at bits m ≡ bit_at info (n * g + m)) → ((j : ℕ) → j < n * q → bit_at new (plane_place n q j) ≡ xor (bit_at old (plane_place n q j)) (sum_of (λ m. list_any (λ x. (x + m * q) % (n * q) == j) row && bit_at bits m) n)) → ((j : ℕ) → j < check_count r.shape → bit_at old (plane_place r.shape.group r.shape.q j) ≡ sum_of (λ b. is_member r j b && bit_at info b) (r.shape.group * g)) → (j : ℕ) → j < check_count r.shape → bit_at new (plane_place r.shape.group r.shape.q j) ≡ sum_of (λ b. is_member r j b && bit_at info b) (r.shape.group * (g + 1))
group_more r info bits old new row n q g en eq er some low are added before j h =
    let P : ℕ → Type 0 = λ k. (j : ℕ) → j < k * q → bit_at new (plane_place k q j) ≡ xor (bit_at old (plane_place k q j)) (sum_of (λ m. list_any (λ x. (x + m * q) % (k * q) == j) row && bit_at bits m) k) in
    let Q : ℕ → Type 0 = λ k. (j : ℕ) → j < r.shape.group * k → bit_at new (plane_place r.shape.group k j) ≡ xor (bit_at old (plane_place r.shape.group k j)) (sum_of (λ m. list_any (λ x. (x + m * k) % (r.shape.group * k) == j) row && bit_at bits m) r.shape.group) in
    let S : List ℕ → Type 0 = λ l. (j : ℕ) → j < check_count r.shape → bit_at new (plane_place r.shape.group r.shape.q j) ≡ xor (bit_at old (plane_place r.shape.group r.shape.q j)) (sum_of (λ m. list_any (λ x. (x + m * r.shape.q) % check_count r.shape == j) l && bit_at bits m) r.shape.group) in
    let B : ℕ → Type 0 = λ k. (m : ℕ) → m < k → bit_at bits m ≡ bit_at info (k * g + m) in
    let step = subst S er (subst Q eq (subst P en added)) in
    let bits_are = subst B en are in
    step j h ∙ ap (λ b. xor b (sum_of (λ m. list_any (λ x. (x + m * r.shape.q) % check_count r.shape == j) (row_of r g) && bit_at bits m) r.shape.group)) (before j h) ∙ sym (group_sum r info bits g j some low bits_are)
