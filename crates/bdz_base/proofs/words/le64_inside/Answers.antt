-- `bdz_base::words::le64_inside` meets its contract. Assumes nothing.
use Rattle.std.proofs.Common.{◌≡◌, ◌∙◌, ℕ, zero, suc, ◌<◌, List, [], ◌∷◌, get_or, refl, arith}
use Rattle.bdz_base.proofs.Bytes.{first_bytes}
use Rattle.bdz_base.proofs.words.le64_inside.Goals as goal

-- the first eight bytes, one by one
eight_of : List ℕ → List ℕ
eight_of xs =
    get_or xs 0 0 ∷ get_or xs 1 0 ∷ get_or xs 2 0 ∷ get_or xs 3 0 ∷ get_or xs 4 0 ∷ get_or xs 5 0 ∷ get_or xs 6 0
    ∷ get_or xs 7 0 ∷ []

same_eight : (xs : List ℕ) (i : ℕ) → i < 8 → get_or (eight_of xs) i 0 ≡ get_or xs i 0
unfolding eight_of
same_eight xs zero l = refl
same_eight xs (suc zero) l = refl
same_eight xs (suc (suc zero)) l = refl
same_eight xs (suc (suc (suc zero))) l = refl
same_eight xs (suc (suc (suc (suc zero)))) l = refl
same_eight xs (suc (suc (suc (suc (suc zero))))) l = refl
same_eight xs (suc (suc (suc (suc (suc (suc zero)))))) l = refl
same_eight xs (suc (suc (suc (suc (suc (suc (suc zero))))))) l = refl
same_eight xs (suc (suc (suc (suc (suc (suc (suc (suc i)))))))) l = absurd (omega (arith, l))

pub returns : goal.returns
unfolding eight_of
returns c =
    let part = c.args.part.now in
    c.from_le_bytes.ensures
    ∙ first_bytes part (eight_of part) (same_eight part) (λ i. omega (arith, c.type_inv.part i)) 7 (omega arith)
