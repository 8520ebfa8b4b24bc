-- The document of size 1, whole: proved by computing both sides.
use Rattle.std.proofs.Common.{◌≡◌, ◌++◌, refl, codes}
use Rattle.std.specs.Fmt.{digits}
use Rattle.cd_make.specs.Making.{make_text}

whole_of_1 : make_text 1
    ≡ codes "cd 1\nregion starts 17 iota 0 2\nregion cols 32 iota 0 1\nregion vals 32 const 3\nregion x 32 iota 1 1\nregion y 16 const 0\nregion total 1 const 0\nregion u 66 iota 0 1\nregion t 64 const 0\n"
    ++ codes "domain root retry 3 detects node\npreserve starts copy\npreserve cols copy\npreserve vals copy\npreserve x copy\npreserve y copy\npreserve total copy\npreserve u copy\npreserve t copy\n"
    ++ codes "group\nfor a in 0..1\ndomain part:a retry 2 detects lost,link\npreserve starts[16*a..16*a+17] refer\npreserve cols refer\npreserve vals refer\npreserve x refer\npreserve y[16*a..16*a+16] copy\n"
    ++ codes "group\nfor b in 0..1\ndomain rows:b retry 3 detects flip\npreserve starts[16*a+16*b..16*a+16*b+17] refer\npreserve cols refer\npreserve vals refer\npreserve x refer\npreserve y[16*a+16*b..16*a+16*b+16] refer\n"
    ++ codes "spmv y[16*a+16*b..16*a+16*b+16] starts[16*a+16*b..16*a+16*b+17] cols vals x\nend\nend\nend\nend\nend\nend\n"
    ++ codes "group\nfor a in 0..1\ndomain strip:a retry 2 detects flip\npreserve u[64*a..64*a+66] refer\npreserve t[64*a..64*a+64] copy\nstencil t[64*a..64*a+64] 1 2 1 u[64*a..64*a+66]\nend\nend\nend\n"
    ++ codes "sum total y\nend\nfaults\nfor a in 0..1\nstrike root/part:a/rows:0 1 1 flip y[16*a] 1\nend\nstrike root 1 3 node total[0] 7\n"
unfolding make_text digits
whole_of_1 = refl
