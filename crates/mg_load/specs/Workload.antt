-- The workload of a number of branches and a number that picks their order.
use Rattle.std.specs.Prelude.{ℕ, zero, suc, ◌+◌, ◌*◌, ◌%◌, List, [], ◌∷◌, ◌++◌, map, codes}
use Rattle.std.specs.List.{flat_map, range_with_len}
use Rattle.std.specs.Fmt.{decimal}
use Rattle.rand_core.specs.Pcg32Seed.{pcg32_seed}
use Rattle.rand_pcg.specs.Lcg.{Lcg}
use Rattle.rand_pcg.specs.Pcg.{pcg32, pcg32_of_seed}

-- the first so many words of a generator
abbrev pub words : Lcg → ℕ → List ℕ
words g zero = []
words g (suc k) = (pcg32 g).0 ∷ words (pcg32 g).1 k

-- the generator of a number
abbrev pub seeded : ℕ → Lcg
seeded seed = pcg32_of_seed (pcg32_seed 16 seed)

-- the branches that are taken, four times as many as there are
abbrev pub picks : (n seed : ℕ) → List ℕ
picks n seed = map (λ word. word % n) (words (seeded seed) (4 * n))

-- the numbers below n
abbrev pub numbers : ℕ → List ℕ
numbers n = range_with_len 0 n

-- Protocols.

-- a branch of a message there and one back, and the words before the next branch
abbrev pub branch : (there back : List ℕ) (number : ℕ) → List ℕ
branch there back number =
    (codes "            m" ++ (decimal number ++ (codes "(int) " ++ (there ++ codes ";\n"))))
    ++ ((codes "            r" ++ (decimal number ++ (codes "(int) " ++ (back ++ codes ";\n"))))
    ++ codes "            continue X;\n        } or {\n")

abbrev pub protocol_head : (me : List ℕ) → List ℕ
protocol_head me = codes "local protocol Load at " ++ (me ++ codes "(role A, role B) {\n    rec X {\n        choice at A {\n")

abbrev pub protocol_end : (there : List ℕ) → List ℕ
protocol_end there = codes "            stop() " ++ (there ++ codes ";\n        }\n    }\n}\n")

abbrev pub protocol : (me there back : List ℕ) (n : ℕ) → List ℕ
protocol me there back n = protocol_head me ++ (flat_map (branch there back) (numbers n) ++ protocol_end there)

-- The class that chooses.

abbrev pub round : (number pick : ℕ) → List ℕ
round number pick =
    codes "        a.send_m" ++ (decimal pick ++ (codes "IntToB(" ++ (decimal number
    ++ (codes ");\n        t = a.receive_r" ++ (decimal pick ++ codes "IntFromB();\n")))))

-- rounds from a number on
abbrev pub rounds : ℕ → List ℕ → List ℕ
rounds number [] = []
rounds number (pick ∷ picks) = round number pick ++ rounds (number + 1) picks

abbrev pub client_head : List ℕ
client_head =
    codes "public class AMain {\n    public static void main(String[] args) {\n"
    ++ codes "        ARole a = new ARole();\n        int t = 0;\n"

abbrev pub client_end : List ℕ
client_end = codes "        a.send_stopToB();\n        System.out.println(t);\n    }\n}\n"

abbrev pub client : List ℕ → List ℕ
client picks = client_head ++ (rounds 1 picks ++ client_end)

-- The class that answers.

abbrev pub group : ℕ → List ℕ
group number =
    (codes "                case m" ++ (decimal number ++ codes ":\n"))
    ++ ((codes "                    sum = sum + b.receive_m" ++ (decimal number ++ codes "IntFromA();\n"))
    ++ (codes "                    b.send_r" ++ (decimal number ++ codes "IntToA(sum);\n                    continue loop;\n")))

abbrev pub server_head : List ℕ
server_head =
    codes "public class BMain {\n    public static void main(String[] args) {\n"
    ++ codes "        BRole b = new BRole();\n        int sum = 0;\n"
    ++ codes "        loop: do {\n            switch (b.receive_BChoice1LabelFromA()) {\n"

abbrev pub server_end : List ℕ
server_end =
    codes "                case stop:\n                    b.receive_stopFromA();\n                    break loop;\n"
    ++ codes "            }\n        } while (true);\n    }\n}\n"

abbrev pub server : ℕ → List ℕ
server n = server_head ++ (flat_map group (numbers n) ++ server_end)

-- The files.

abbrev pub file_names : List (List ℕ)
file_names = codes "A.scr" ∷ codes "B.scr" ∷ codes "AMain.java" ∷ codes "BMain.java" ∷ []

abbrev pub file_texts : (n seed : ℕ) → List (List ℕ)
file_texts n seed =
    protocol (codes "A") (codes "to B") (codes "from B") n ∷ protocol (codes "B") (codes "from A") (codes "to A") n
    ∷ client (picks n seed) ∷ server n ∷ []

-- the line that tells of it, with the end of the line
abbrev pub loaded_line : (n seed messages : ℕ) → List ℕ
loaded_line n seed messages =
    codes "load " ++ (decimal n ++ (codes " " ++ (decimal seed ++ (codes ": " ++ (decimal (4 * n)
    ++ (codes " rounds, " ++ (decimal messages ++ codes " messages\n")))))))
