-- Vectors of assets, prices and signers: how long the value is that the bytes begin with, or which fault reading meets
-- at which offset. So many bytes are the value's encoding (Encodings). The rows named `_vectors` come from a program
-- that shares nothing with this one; those named `_by_hand` were laid out by hand from the protocol's XDR.
use Rattle.definition_rows.proofs.Prelude.{◌≡◌, refl, true, ◌&&◌, Short, BadEnum, asset, trust_line_asset, price}
use Rattle.definition_rows.proofs.Prelude.{signer_key, signer}
use Rattle.definition_rows.proofs.Rows.{hex}
use Rattle.definition_rows.proofs.Readings.{has_value, has_fault}
use Rattle.definition_rows.proofs.Opened.{entries_formats}

asset_vectors : (has_value asset 44
    (hex "000000014100000000000000d014582143bd2265b798328ac7c9e68103faf8eeb7137af13aecd971a8a538a1")
    && has_value asset 44
    (hex "0000000141000000000000003412d496b729ee83d91060cd0a40514780b86a2d51202ca42909ac4dda133387")
    && has_value asset 44
    (hex "000000014555524f00000000b7c9416c0eaf8dbd327c3db44431e80b6c4b369009ce4b12b4774b9a4121e7b6")
    && has_value asset 44
    (hex "000000014100000000000000b9124b6af5654136cd850eeab82d55229d013df42c2e9f6b17fc3026d8edb09c")
    && has_value asset 52
    (hex "000000024c4f4e47434f444500000000000000006ec99970a52f92208f32a571931a28389626f25f168a4fcf65ec853950426ead")
    && has_value asset 52
    (hex "000000024c4f4e47434f444500000000000000000000000066da2aa83a8785713d1c78bcd5677a84aca8f1997dd3e3a59be2c1ff")
    && has_value asset 52
    (hex "000000024c4f4e47434f44450000000000000000339dab88d7a7a2165085941fe9d04e37d303286ba8c193c95107ef8b8b630214")
    && has_value asset 44
    (hex "0000000155534400000000007c943bc1e3669bad64238a75f028e9b385e2d44cc58f2978c30f61fd91891feb")
    && has_value asset 44
    (hex "000000014555524f0000000048b96bc81a8548bf1282d67f3e4433f8d244fd2dbbfec476c6f1733e45945123")
    && has_value asset 44
    (hex "0000000141000000000000008ae06039ee0c335ce6aa8f6086199a87b05eddd3fdb2a1caa569f7563e951b4b")
    && has_value asset 52
    (hex "000000024c4f4e47434f444500000000000000005ad5195a4851f2a6fe34e79b04d004b8732651efaaeae614675c62ed8eaa87d1")
    && has_value asset 44
    (hex "0000000141000000000000000286c4afb021e7e8f70df8ddab340e91782d4e0ae22dc84852e18010e593b218")
    && has_value asset 44
    (hex "00000001555344000000000090e70d92557d9b3d12f06255dde9e500047adc9cba257498dc109c015473218d")
    && has_value asset 52
    (hex "000000024c4f4e47434f444500000000000000000000000022f33310579ed2a4ade10e8a8abb3d013005737effffffff1ad9b15f")
    && has_value asset 44
    (hex "000000014555524f000000006f013dd2262eed84aa6d4632f56ff8482e6b3cb9020c2d7f759fddcd325cf5f60f0b0d04c36e")
    && has_value asset 44
    (hex "000000015553440700000000f08d5b409e956fffe9e6865d70f1cf0aca548e3a8ecdf1732ac703c3e0875aab")
    && has_value asset 52
    (hex "00000002414243444500470000000000000000000000000089ff8ce61a573504b8d3d1771c13442286b631fa6cd27a2b4a5ceee2")
    && has_value asset 44
    (hex "0000000155534400000000001b4f86f520ea2df4d2bf6ab3a2e08a567e9398d403a9eb0eb80ce3192c5edb9b")
    && has_fault asset BadEnum 0
    (hex "000000064c4f4e47434f4445000000000000000000000000e1015fa9a01411aa9c82a94fa64f7e9a2c59422912e80b80d36fc8e2")
    && has_fault asset BadEnum 16
    (hex "000000025457454c564543484152535800000007dff18566493243b86054dac8649b55fb312d8f378712b12c2c32fa75c6c361d5")
    && has_fault asset Short 21 (hex "000000015553440000000000000000002766843e4b")
    && has_value asset 52
    (hex "000000024c4f4e47434f444500000000000000007c943bc1e3669bad64238a75f028e96185e2d44cc58f2978c30f61fd91891feb")
    && has_fault asset BadEnum 8
    (hex "000000015553440000000007e74dd47eabc57d46efbd659b1c014f5390cebfcf278445207ab4b718363b6349")
    && has_fault asset BadEnum 16
    (hex "000000025457454c56454348415253580000000786dab205ecaa9d206c934631c25b91ea45f57ccd1bf4a30966ec396898cd4d77")
    && has_fault asset BadEnum 0
    (hex "000000155553440000000000e74dd47eabc57d46efbd659b1c014f5390cebfcf278445207ab4b718363b6349")
    && has_fault asset Short 1 (hex "00")
    && has_fault asset Short 48
    (hex "000000024c4f4e47434f444500000000000000000000000066da2aa83a8785713d1c78bcd5677a84aca8f1997dd3e3a5")
    && has_fault asset BadEnum 8
    (hex "000000014555524f00000007dc77a04788b229262c8643cad6f78b14fd4093e72be9328f16c15b0745613a33")
    && has_fault asset Short 16 (hex "000000014555524f00000000c4ca572b")
    && has_fault asset BadEnum 0
    (hex "00400001410000000000000000000000d79056453b7c5c0cd471fe9104afa5e842cc8066b4c2796f7558e7c3")
    && has_fault asset Short 10 (hex "00000001410000000000")
    && has_fault asset Short 19 (hex "000000014555524f000000004edc5c239f7ad1")
    && has_fault asset Short 13 (hex "0000000155534400000000001b")
    && has_value asset 44
    (hex "000000015553440000000000b7cc807642ef8500d71d55419ebeff1cd03a74d9dc01c9b00b0b999800000000de2a6656")
    && has_value asset 44
    (hex "000000014555524f000000006f013dd2262eed84aa6d4632f56ff8482e6b3cb9020c2d7f759fddcd325cf5f67f")
    && has_value asset 44
    (hex "000000015553440000000000f08d5b409e956fffe9e6865d70f1cf0aca548e3a8ecdf1732ac703c3e0875eab")) ≡ true
unfolding hex has_value has_fault entries_formats
asset_vectors = refl

asset_by_hand : (has_value asset 44
    (hex "0000000155534400000000000101010101010101010101010101010101010101010101010101010101010101")) ≡ true
unfolding hex has_value has_fault entries_formats
asset_by_hand = refl

trust_line_asset_vectors : (has_value trust_line_asset 36
    (hex "000000032761efc28bed80ed17de2ad761626c54ffa578ce199154c3fcf9c29abdba8a6a")
    && has_value trust_line_asset 52
    (hex "000000024c4f4e47434f444500000000000000000000000022f33310579ed2a4ade10e8a8abb3d013005737e75701cd51ad9b15f")
    && has_value trust_line_asset 44
    (hex "000000014100000000000000e8a98e1866e68dad240babbc03b692d14a683d8dacac9aaa5b2b4ac5fb6ef353")
    && has_value trust_line_asset 36 (hex "00000003f3df9948735b80412fd5d156e24f7d84e3554907344509fdac27a0e897dd12e2")
    && has_value trust_line_asset 44
    (hex "0000000155534400000000000000000022f33310579ed2a4ade10e8a8abb3d013005737e75701cd51ad9b15f")
    && has_value trust_line_asset 44
    (hex "00000001555344000000000000000000db7a8a6525e86695dbd7f040870ba2b8ad94f947abcfd06e2a74b979")
    && has_value trust_line_asset 36 (hex "0000000345fdf810a7fe9bb05570bd202cbc3e564e15d7475a6745fa635fa47476ea10aa")
    && has_value trust_line_asset 44
    (hex "0000000141000000000000000ffe0817ef061be5e90eda012bee42349cbfd7317adb57b804e7af9ab77da980")
    && has_value trust_line_asset 36 (hex "00000003e41346e65d9d110b16d2f5e70f459da84222843226879a91eac50cc4a81c614c")
    && has_value trust_line_asset 44
    (hex "000000015553440000000000b8e7bec5c9e22f48b75aca50771d5b4beadf09f202d5557213da94e4e9fa2584")
    && has_value trust_line_asset 36 (hex "000000038f9e4d310992c3e7ef15cb3907999cd632bbf0e6d3fb289947d3a62f679b69c0")
    && has_value trust_line_asset 44
    (hex "000000015553440000000000f7ecc3da69414664490c3d4e188ad21f663ade9a0dcfa6d02b55f615528ea585")
    && has_value trust_line_asset 44
    (hex "00000001410000000000000051f3a3f7d643e1092f302e7dda0ea8a42ff9525d42ba4f7cfb014c048c65c5487ecb")
    && has_fault trust_line_asset Short 3 (hex "000000")
    && has_fault trust_line_asset Short 35
    (hex "0000000353d65de2e6054a9cb5b278014af06b22765f21550e85753c9ade52aa37d9af")
    && has_fault trust_line_asset BadEnum 8
    (hex "000000014555524f00000007000000009ce8a6c9983de2bfd33968bc7bf41b8c0926557aa49989dadd2b5182")
    && has_fault trust_line_asset BadEnum 0
    (hex "01000003eab171d7bd5391040aa4bb314dbd1269288826fb3d10ed1be008ec99199ddcbf")
    && has_value trust_line_asset 36 (hex "00000003050c028b12a6f41fa9b6a15db67ab1d4923343050910aa773373d24431982197")
    && has_value trust_line_asset 44
    (hex "000000015553440000000000000000009ec9d78e82e59b95d1347014077894394d10f4d8f368d486247f1372e5d555cac766")
    && has_value trust_line_asset 36
    (hex "00000003c3fa1869dc33a52f31f7ee0b000000007ecc017a2eff9dc76f21c243b6df3a49ead5cb2e")
    && has_value trust_line_asset 36 (hex "000000033c02eacace89b32da46bf7ecf4f3211399c8bb1dc1449ab8e22aae81c7c6c7a2")
    && has_value trust_line_asset 44
    (hex "00000001555344000000000000000000db7a8a6525e86695dbd7f040870ba2b8ad94f94700000000abcfd06e2a74b979")
    && has_value trust_line_asset 44
    (hex "000000014555524f00000000000000070e46ef928d79b3fcf92cec8b4c67cbde9e7266dae9d955232eb96037")
    && has_fault trust_line_asset BadEnum 8
    (hex "00000001410000001000000000000000f5012e48adc3fb2c2ccce2fd0c3aac8a8854f0ac3148f435498214ed")
    && has_fault trust_line_asset BadEnum 16
    (hex "000000025457454c564543484152535800000007b8ccfb6fe0099e77bbdb6634f24fee37efc89b67e770c92edf68259e0aca053f")
    && has_fault trust_line_asset Short 18 (hex "00000003adbe4b40d28c857bb64a9ee0589e")
    && has_fault trust_line_asset BadEnum 0
    (hex "000001005553440000000000f2f381f43c9ec81edcdc4f49c9a49a3bc598b06e540bb6baf738ab0521453a84")
    && has_fault trust_line_asset BadEnum 8
    (hex "000000014555524f00000007161ef15ce981ff825f59d388ed67442f2a423dcc600c24a89e5e39d46fa60242")
    && has_fault trust_line_asset BadEnum 0
    (hex "000000fa4100000000000000043ef94f315e7c459429835ee587a853c8911c1e6df766310fa69337f0da3741")
    && has_fault trust_line_asset Short 4 (hex "00000002")
    && has_fault trust_line_asset Short 29 (hex "00000003273972930979a6a9fd01f64ad76beeecf45a5619a18184e756")
    && has_fault trust_line_asset Short 35
    (hex "00000003b32a3a5f793c009445f4b4c8069e48ec809e754d921514838f56ccc96943ac")
    && has_fault trust_line_asset Short 27 (hex "00000003b93ab9c357f780ea2dd15023a53e457a04a000ad40d58a")
    && has_value trust_line_asset 36
    (hex "0000000370b8fbb67e1e374500000000d97325889741db6a6a4784d45544d5d4df16c083a17d7a79")
    && has_value trust_line_asset 44
    (hex "000000014100000000000000ba0aa3ee53c0a03a83482024568ef9b2a5b55a8cc99917c1e5f7376eb4e44561")
    && has_value trust_line_asset 36
    (hex "00000003c3c9401b2f2837ca3a834e4b6dfca1db637a554a72a5e5d66f0621acfb2223827fe285ceb6c575")) ≡ true
unfolding hex has_value has_fault entries_formats
trust_line_asset_vectors = refl

price_vectors : (has_value price 8 (hex "000392fa00063510")
    && has_value price 8 (hex "0000000500000001")
    && has_value price 8 (hex "0000000700000004")
    && has_value price 8 (hex "696f301d2661cfab")
    && has_value price 8 (hex "000135660003bb3f")
    && has_value price 8 (hex "0000000400000001")
    && has_value price 8 (hex "000000017fffffff")
    && has_value price 8 (hex "0006ffde000d33d9")
    && has_value price 8 (hex "5630c1200518bc8c")
    && has_value price 8 (hex "000c4a070008227d")
    && has_value price 8 (hex "0000000300000005")
    && has_value price 8 (hex "000a888c000bbda9")
    && has_value price 8 (hex "0000000500000002")
    && has_value price 8 (hex "00000005000e9d8b")
    && has_value price 8 (hex "0000000200000002")
    && has_value price 8 (hex "2dc6fe525e8a8e0a")
    && has_value price 8 (hex "000957ab000cdc3f")
    && has_value price 8 (hex "000c27730005ecc5")
    && has_value price 8 (hex "00000002000000019284")
    && has_fault price Short 7 (hex "0000006b000000")
    && has_fault price Short 2 (hex "000c")
    && has_fault price Short 3 (hex "000bef")
    && has_fault price Short 6 (hex "000000060000")
    && has_fault price Short 7 (hex "0000005f000000")
    && has_fault price Short 0 (hex "")
    && has_fault price Short 2 (hex "776b")
    && has_value price 8 (hex "0000080600000005")
    && has_value price 8 (hex "00000000000a888c000bbda9")
    && has_value price 8 (hex "00000004000000c9")
    && has_value price 8 (hex "776bc03311587d37")
    && has_value price 8 (hex "0c0bdd565a07aac9")
    && has_value price 8 (hex "000b551f00000002")
    && has_value price 8 (hex "0000008c00000001")
    && has_value price 8 (hex "00000000776bc03311587d37")
    && has_value price 8 (hex "000965a40001a8a3")
    && has_value price 8 (hex "0000000600000005")) ≡ true
unfolding hex has_value has_fault entries_formats
price_vectors = refl

signer_key_vectors : (has_value signer_key 36
    (hex "000000010893b1f2deb7b1bf49cf6195d99be4dac90149932349869af9dc93592c74a5d9")
    && has_value signer_key 36 (hex "00000002cc95530fca77fea155ca8f441f10006912fde158f16ca2bb3f4f17a41661f76c")
    && has_value signer_key 36 (hex "00000002624abf4dd79fb656dd71565e55aaa8b3f5ecbe9bdb0dafa7866510ad822af1c1")
    && has_value signer_key 36 (hex "000000027081428ac6230b2816502caa2f729492c96f60c4168a8feda7eec696402b6296")
    && has_value signer_key 36 (hex "00000002fba114fd74ce35e520091b14e0a09af51b58640f55d67a6b2000fe464f0f5bdc")
    && has_value signer_key 36 (hex "00000002a1269a9c6cb4a34e345d2299e376d7dfcbe61a11aed3860b443be6649e5fd361")
    && has_value signer_key 36 (hex "00000002f1f8e4ae22e6e3738c7b62f82944db5ae0a2042708cca7abae75f366e4cbcd21")
    && has_value signer_key 36 (hex "00000000ca6b4622d64beddac6b2b1edb0933a1709a1e92032bf4c56fa75baaf1ab5ee51")
    && has_value signer_key 36 (hex "0000000280f629583a5b08df9864e731d546751d16a6f3f7c965572484bb4792bd6879fc")
    && has_value signer_key 36 (hex "00000002d90af0cfd1e244c6fc5dc482379de312d4ae7783224af91ce44beb10622ca2d4")
    && has_value signer_key 36 (hex "00000002684888c0ebb17f374298b65ee2807526c066094c701bcc7ebbe1c1095f494fc1")
    && has_value signer_key 36 (hex "00000001f39fcb3e136a40df26d9eb86dd74da67980585a39c16ba9fb728e4f8191cee42")
    && has_value signer_key 36 (hex "00000002000000008533f41e4ec9a949c8d13f39bf041b2eae475af1ff48d451dc1c20dd8638a64e")
    && has_fault signer_key Short 1 (hex "00")
    && has_fault signer_key Short 5 (hex "0000000283")
    && has_value signer_key 36 (hex "00000002f195241d0000000098c540104c9e566bfd387208e9b8b710d6d2eee129d3932fbebd63f3")
    && has_fault signer_key Short 36 (hex "000000034b68ab3847feda7d6c62c1fbcbeebfa35eab7351ed5e78f4ddadea5df64b8015")
    && has_value signer_key 36 (hex "00000002e968974d99b52e35f7ac699b1e36b2d4b9500c8ec170ef77bd8bf79faa07eab2")
    && has_value signer_key 36 (hex "000000028185740b365373b8000001006b3b217aa7c868ea7980ba7519eb44332f674dae")
    && has_value signer_key 36 (hex "000000010b078db5ba6a0ea20bf71aa5a39524ed234883ad0a516fa46aef18077763eba6")
    && has_value signer_key 36 (hex "0000000100000000a335cd4cc1a35c22f443b422a481944470f90664778d72aa47160045")
    && has_fault signer_key Short 0 (hex "")
    && has_fault signer_key Short 9 (hex "0000000280f629583a")
    && has_value signer_key 36 (hex "00000001feab68eddb689e1b0000000054aa10039380cbdf277a08fdfcba7ec4f0176401e1a38680")
    && has_fault signer_key Short 10 (hex "0000000136a54d3e0cfd")
    && has_fault signer_key BadEnum 0 (hex "002000018b8edf33fa499dc7d7432fc912b51239515dfa4eaa4e6e3d865d318dfae30903")
    && has_fault signer_key Short 14 (hex "000000016d280a7705c331737dac")
    && has_fault signer_key Short 15 (hex "000000018a949e56e2c9596debaa13")
    && has_fault signer_key BadEnum 0 (hex "0000000a2fda9e6c93d2365b3970da5ea0c653dd6e24c67666c4150c58dd0e736985414b")
    && has_fault signer_key BadEnum 0 (hex "00000007ddcc47ff4aa8c6adcf6c045c0834b3db69efc472252d61d6396e365dba823196")
    && has_fault signer_key BadEnum 0 (hex "0000000826e5bfe4b0686167e3e4e0aac40cbae03515171d375f91ea563c9c044e9c5cc7")
    && has_fault signer_key BadEnum 0 (hex "0000004ad67f4c22a1c86147d78d102438973f84f496a272350743d8514f77fb196c6e56")
    && has_fault signer_key BadEnum 0 (hex "8000000182dcad7e51e0df6917bc0987aa13c4f9fd63096f248a3819f3a5df2abf44d9af")
    && has_value signer_key 36 (hex "000000016ffa87f9077d7564ac93fcc5455639dd6256affc059eb27b583b8b6d00000008")
    && has_value signer_key 36 (hex "00000001b94872028139073646ba8ca1a6dfdb57f849c2dbde46a49c46caccc9c37b7aff")
    && has_value signer_key 36 (hex "0000000000000000afe825270feab414841f23be58d6a59c6d6965638f5878435f29c65b")) ≡ true
unfolding hex has_value has_fault entries_formats
signer_key_vectors = refl

signer_vectors : (has_value signer 40
    (hex "00000000175ab9d40242ff41c6643489ba7bd6cbf438cfeb2b2a26394a95b09abef54aa900000082")
    && has_value signer 40 (hex "0000000226e5bfe4b0686167e3e4e0aac40cbae03515171d375f91ea563c9c044e9c5cc700000001")
    && has_value signer 40 (hex "0000000211b5c4afcc6be72c6902e955a309577545ae13884a80dd74b6041446b540c4a400000002")
    && has_value signer 40 (hex "000000013b6967bbe176c343cf210655ef9376f510219ba9e49241dcb8cc2e29766680e000000001")
    && has_value signer 40 (hex "00000001aed2c8a0ff47162e7b7b86c61e80a3994161a331867cd56a4ab1b7b44ed1632b00000016")
    && has_value signer 40 (hex "000000026793dc64dcadf62a11d3252d6aa70fb7ecc5eb5700f5635ca351c27cf9cf285e00000001")
    && has_value signer 40 (hex "00000002aa629e10f76729b63d358f7733a56229fd866119504cd30f3729503d19e600fb00000002")
    && has_value signer 40 (hex "000000020b766adf0af48e31ac96b070af831e3b0a836cbd685cee3148f5c2fa5cf614e800000001")
    && has_value signer 40 (hex "0000000141bac0502cf31847e1394b0a9765794648d19b3356ba4c31e3258aeea8fd3a9f000000a0")
    && has_value signer 40 (hex "000000027966d4e3ab8a2216cd35c327f9d710c2db15cd5aba8b92f1e2c12c6f54cc059a00000001")
    && has_value signer 40 (hex "00000002a16a762edf80daea21caded7614270caba8808510f3cb84b3b46d0b51069035e00000002")
    && has_value signer 40 (hex "0000000218a00bc346627f5d79b428db272528eea8a6bd6c9b4b9b61575f85c00a365b3b00000001")
    && has_value signer 40 (hex "00000002e8af4da1f2a52fd4d48357ba38fde999f847f699ab9483c578b9ac5baffa97d000000001")
    && has_value signer 40 (hex "000000018728904e0960d01f07645a860fefba44524b41e4ed99f8d26831f938a310bce900000001")
    && has_value signer 40 (hex "00000001f463e2fb8a2a9dc0526523591a88c64b6b3ad158b3afc524000000042b52908600000001")
    && has_value signer 40
    (hex "0000000000000001000000002f2da335519f9095bfab0d38b435fdfcc9b1e904ae2e08bfce19473700000001")
    && has_value signer 40 (hex "00000002557074e30000000271926aaf70a4f4aee53ac61f6a4d721e5f222966d39c168900000001")
    && has_value signer 40 (hex "000000009697f5a2fc9bcffd3c6822128e58274363d78aa5200486ec00000003a35a82c6000000c4")
    && has_value signer 40 (hex "00000002819ec4dd018f7b8bc953762d32a658bfa69aa7d80f2a4733d26ea25489f6e06e00000001")
    && has_fault signer Short 0 (hex "")
    && has_fault signer Short 13 (hex "000000001491bd55c6aa881c60")
    && has_fault signer Short 19 (hex "00000001f39fcb3e136a40df26d9eb86dd74da")
    && has_fault signer Short 1 (hex "00")
    && has_fault signer Short 11 (hex "000000026922e93e382764")
    && has_fault signer Short 18 (hex "00000002db52bde489e966d2aee13afef3a2")
    && has_fault signer BadEnum 0
    (hex "080000029f8bf29d0aadd954b1cdc2b74737f4aa00e25ac3e78d4de77c240fe310ba6a5d000000ff")
    && has_fault signer Short 4 (hex "00000000")
    && has_fault signer BadEnum 0
    (hex "0000007defeaa451c8a73e216d4350399ff4a2c0934bc702c833159910f94d615f2d92e1000000ff")
    && has_fault signer BadEnum 0
    (hex "000000b078da185ee570afdaf06f300e87abf574c9ae6a486ae0133236cfc99e3e24384900000001")
    && has_fault signer BadEnum 0
    (hex "0000000734c01d14ed90c21021178fbc5e33fbd6161e9e95d153f2bedfd9cedbf002033800000058")
    && has_fault signer BadEnum 0
    (hex "00000801c39e8d56b4cee8cb626c14adf201288e25dffd49b2eaf7ce5e320be295475c5400000001")
    && has_fault signer BadEnum 0
    (hex "00000065337cfcf805883a9993887bb97babcf7e224e825a772dc2438cd1d391783173ce00000001")
    && has_fault signer BadEnum 0
    (hex "000000075ab66a260b169a872e0a88d5215f3ef58ab468c1ef02edd3ed7841f8fa6b9d1d00000049")
    && has_value signer 40 (hex "0000000100000007d686ea1b9925a7e97a5d2f0cd88a6cd41670f9673a908eb0a6f0109200000001")
    && has_value signer 40 (hex "00000002032fb15cb4d19a86d3f3b305e3116fcd00000065c6f986d1556255d2609a090400000002")
    && has_value signer 40
    (hex "0000000258045119f1b32934dff945fae20819b37a291bbcbd4f587070ce89cbc1c80dc1000000011d")) ≡ true
unfolding hex has_value has_fault entries_formats
signer_vectors = refl
