-- A text to which one piece is appended after another.
use Rattle.std.proofs.Common.{◌≡◌, List, ℕ, ◌++◌, append_assoc}

pub five : (x0 x1 x2 x3 x4 x5 p1 p2 p3 p4 p5 : List ℕ)
    → x1 ≡ x0 ++ p1 → x2 ≡ x1 ++ p2 → x3 ≡ x2 ++ p3 → x4 ≡ x3 ++ p4 → x5 ≡ x4 ++ p5
    → x5 ≡ x0 ++ (p1 ++ (p2 ++ (p3 ++ (p4 ++ p5))))
five x0 x1 x2 x3 x4 x5 p1 p2 p3 p4 p5 e1 e2 e3 e4 e5 = rw (e5, e4, e3, e2, e1) (simp append_assoc)

pub ten : (x0 x1 x2 x3 x4 x5 x6 x7 x8 x9 x10 p1 p2 p3 p4 p5 p6 p7 p8 p9 p10 : List ℕ)
    → x1 ≡ x0 ++ p1 → x2 ≡ x1 ++ p2 → x3 ≡ x2 ++ p3 → x4 ≡ x3 ++ p4 → x5 ≡ x4 ++ p5 → x6 ≡ x5 ++ p6 → x7 ≡ x6 ++ p7 → x8 ≡ x7 ++ p8 → x9 ≡ x8 ++ p9 → x10 ≡ x9 ++ p10
    → x10 ≡ x0 ++ (p1 ++ (p2 ++ (p3 ++ (p4 ++ (p5 ++ (p6 ++ (p7 ++ (p8 ++ (p9 ++ p10)))))))))
ten x0 x1 x2 x3 x4 x5 x6 x7 x8 x9 x10 p1 p2 p3 p4 p5 p6 p7 p8 p9 p10 e1 e2 e3 e4 e5 e6 e7 e8 e9 e10 = rw (e10, e9, e8, e7, e6, e5, e4, e3, e2, e1) (simp append_assoc)

pub eleven : (x0 x1 x2 x3 x4 x5 x6 x7 x8 x9 x10 x11 p1 p2 p3 p4 p5 p6 p7 p8 p9 p10 p11 : List ℕ)
    → x1 ≡ x0 ++ p1 → x2 ≡ x1 ++ p2 → x3 ≡ x2 ++ p3 → x4 ≡ x3 ++ p4 → x5 ≡ x4 ++ p5 → x6 ≡ x5 ++ p6 → x7 ≡ x6 ++ p7 → x8 ≡ x7 ++ p8 → x9 ≡ x8 ++ p9 → x10 ≡ x9 ++ p10 → x11 ≡ x10 ++ p11
    → x11 ≡ x0 ++ (p1 ++ (p2 ++ (p3 ++ (p4 ++ (p5 ++ (p6 ++ (p7 ++ (p8 ++ (p9 ++ (p10 ++ p11))))))))))
eleven x0 x1 x2 x3 x4 x5 x6 x7 x8 x9 x10 x11 p1 p2 p3 p4 p5 p6 p7 p8 p9 p10 p11 e1 e2 e3 e4 e5 e6 e7 e8 e9 e10 e11 = rw (e11, e10, e9, e8, e7, e6, e5, e4, e3, e2, e1) (simp append_assoc)
